-- `room::put_each` meets its contract: what the bytes passed put is put.
use Rattle.room.proofs.Laws.{EachPut}
use Rattle.room.proofs.put_each.Given as goal

abbrev pub invariant-loop-b : goal.invariant-loop-b
invariant-loop-b l = EachPut l.initial.room l.at l.src l.b-index l.to l.room
