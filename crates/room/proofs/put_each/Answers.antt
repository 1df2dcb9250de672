-- `room::put_each` meets its contract: what the bytes passed put is put.
use Rattle.room.proofs.Laws.{laws}
use Rattle.room.proofs.put_each.Goals as goal

pub loop-b-preserved : goal.loop-b-preserved
loop-b-preserved c = search laws
