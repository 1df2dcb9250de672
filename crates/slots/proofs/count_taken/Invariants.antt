use Prim.Native.Nat.{◌-◌}
use Rattle.slots.proofs.Laws.{Taken}
use Rattle.slots.proofs.count_taken.Given as goal

abbrev pub invariant-loop-i : goal.invariant-loop-i
invariant-loop-i l = Taken l.memory l.used l.n l.i

abbrev pub decreases-loop-i : goal.decreases-loop-i
decreases-loop-i l = l.used - l.i
