use Prim.Native.Nat.{◌-◌}
use Rattle.uniting.proofs.Laws.{UnitedTo}
use Rattle.uniting.proofs.unite_slots.Reads as reads
use Rattle.uniting.proofs.unite_slots.Lts as lts
use Rattle.uniting.proofs.unite_slot.Reads as unite-slot-reads
use Rattle.uniting.proofs.unite_slots.Given as goal

abbrev pub invariant-loop-i : goal.invariant-loop-i
invariant-loop-i l = UnitedTo l.initial.memory l.used l.memory l.i

abbrev pub decreases-loop-i : goal.decreases-loop-i
decreases-loop-i l = l.used - l.i
