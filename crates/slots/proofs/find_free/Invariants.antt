use Prim.Native.Nat.{◌-◌}
use Rattle.slots.specs.Slot.{is_free}
use Rattle.slots.proofs.Laws.{Looked}
use Rattle.slots.proofs.find_free.Given as goal

abbrev pub invariant-loop-i : goal.invariant-loop-i
invariant-loop-i l = Looked (is_free l.memory) l.used l.i

abbrev pub decreases-loop-i : goal.decreases-loop-i
decreases-loop-i l = l.used - l.i
