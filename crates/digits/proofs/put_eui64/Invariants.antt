-- `digits::put_eui64` meets its contract: the segments of the number are those of what is left and then those that are made.
use Rattle.digits.proofs.Laws.{InDashed}
use Rattle.digits.proofs.put_eui64.Given as goal

abbrev pub invariant-loop-segment : goal.invariant-loop-segment
invariant-loop-segment l = InDashed l.id l.text l.segment l.left
