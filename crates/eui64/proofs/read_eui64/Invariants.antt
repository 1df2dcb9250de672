-- `eui64::read_eui64` meets its contract: the segments that are left settle the answer.
use Rattle.eui64.proofs.Laws.{Inv}
use Rattle.eui64.proofs.read_eui64.Given as goal

abbrev pub invariant-loop-done : goal.invariant-loop-done
invariant-loop-done l = Inv l.s l.id l.done
