-- `number::read_digits` meets its contract: what is left settles the digits, and with the value so far the number.
use mathlib.Core.Path.{sym, ◌∙◌}
use Rattle.number.proofs.Laws.{digits_next}
use Rattle.number.proofs.read_digits.Goals as goal

pub loop-b-preserved : goal.loop-b-preserved
loop-b-preserved c =
    digits_next c.loop-b.invariant c.loop-b-test.true (sym c.is_ascii_digit.ensures.value ∙ c.if-not-is_ascii_digit.false) _ c.with_digit-value.ensures
