-- `room::put_byte` meets its contract: behind the room's end a store would change nothing.
use Rattle.room.proofs.Laws.{laws}
use Rattle.std.proofs.Common.{rules}
use Rattle.room.proofs.put_byte.Goals as goal

pub returns : goal.returns
returns c = search (rules, laws)
