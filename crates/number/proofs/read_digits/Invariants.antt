-- `number::read_digits` meets its contract: what is left settles the digits, and with the value so far the number.
use Rattle.number.proofs.Laws.{Inv}
use Rattle.number.proofs.read_digits.Given as goal

abbrev pub invariant-loop-b : goal.invariant-loop-b
invariant-loop-b l = Inv l.s l.limit l.value l.b-index
