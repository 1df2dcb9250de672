-- `room::store` meets its contract: what the bytes passed store is stored.
use Rattle.room.proofs.Laws.{laws}
use Rattle.std.proofs.Common.{rules}
use Rattle.room.proofs.store.Goals as goal

pub loop-i-preserved : goal.loop-i-preserved
loop-i-preserved c = search (rules, laws)
