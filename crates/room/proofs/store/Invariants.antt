-- `room::store` meets its contract: what the bytes passed store is stored.
use Rattle.room.proofs.Laws.{Stored}
use Rattle.room.proofs.store.Given as goal

abbrev pub invariant-loop-i : goal.invariant-loop-i
invariant-loop-i l = Stored l.initial.room l.at l.src l.i l.room
