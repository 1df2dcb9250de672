-- `ipnumber::value` meets its contract: what is left gives the value of all, and a value only grows.
use Rattle.ipnumber.proofs.Held.{Valuing}
use Rattle.ipnumber.proofs.value.Given as goal

abbrev pub invariant-loop-b : goal.invariant-loop-b
invariant-loop-b l = Valuing l.base l.s l.v l.b-index
