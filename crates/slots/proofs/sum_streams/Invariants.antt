use Prim.Native.Nat.{◌-◌}
use Rattle.slots.proofs.Laws.{Summed}
use Rattle.slots.proofs.sum_streams.Given as goal

abbrev pub invariant-loop-i : goal.invariant-loop-i
invariant-loop-i l = Summed l.memory l.used l.n l.i

abbrev pub decreases-loop-i : goal.decreases-loop-i
decreases-loop-i l = l.used - l.i
