use Prim.Native.Nat.{◌-◌}
use Rattle.meaning.specs.Meaning.{ref_meaning}
use Rattle.slots.proofs.Laws.{NoneBefore}
use Rattle.slots.proofs.find.Given as goal

abbrev pub invariant-loop-i : goal.invariant-loop-i
invariant-loop-i l = NoneBefore l.memory (ref_meaning l.v l.clock) l.used l.i

abbrev pub decreases-loop-i : goal.decreases-loop-i
decreases-loop-i l = l.used - l.i
