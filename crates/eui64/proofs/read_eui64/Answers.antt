-- `eui64::read_eui64` meets its contract: the segments that are left settle the answer.
use mathlib.Core.Path.{ap, sym, ◌∙◌}
use Rattle.std.specs.Prelude.{Some}
use Rattle.eui64.proofs.Laws.{not_two, two_next}
use Rattle.eui64.proofs.read_eui64.Goals as goal

pub returns-then-not-has_two_bytes : goal.returns-then-not-has_two_bytes
returns-then-not-has_two_bytes c =
    not_two c.loop-done.invariant c.loop-done-test.true _ c.has_two_bytes.ensures c.if-not-has_two_bytes.true _ c.find-len.ensures _ c.new-then-not-has_two_bytes.ensures

pub loop-done-preserved : goal.loop-done-preserved
loop-done-preserved c =
    two_next c.loop-done.invariant c.loop-done-test.true _ c.has_two_bytes.ensures c.if-not-has_two_bytes.false _ c.read_segment.ensures _
    (c.in_ok-byte.ensures.ok_part ∙ ap Some (sym c.from.ensures))
