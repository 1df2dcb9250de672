-- `digits::put_digits` meets its contract: the digits of n are those of what is left and then those that are made.
use Rattle.digits.proofs.Laws.{Spelled}
use Rattle.digits.proofs.put_digits.Given as goal

abbrev pub invariant-loop-left : goal.invariant-loop-left
invariant-loop-left l = Spelled l.n l.digits l.first l.left

abbrev pub decreases-loop-left : goal.decreases-loop-left
decreases-loop-left l = l.left
