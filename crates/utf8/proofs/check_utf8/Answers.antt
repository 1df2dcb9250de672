-- `utf8::check_utf8` meets its contract: where no sequence begins, the longest well-formed front ends.
use Rattle.std.specs.Prelude.{Err}
use Rattle.std.proofs.Common.{rules}
use mathlib.Core.Path.{◌≡◌, ◌∙◌}
use Rattle.utf8.proofs.Laws.{check_stuck}
use Rattle.utf8.proofs.check_utf8.Goals as goal

pub returns-in_err-at : goal.returns-in_err-at
returns-in_err-at c =
    let e : c.from_residual.result ≡ Err c.loop-at.at = search rules in
    e ∙ check_stuck c.loop-at.invariant c.loop-at-test.true (rw c.in_err-at.ensures.ok_part at c.sequence_length.ensures)
