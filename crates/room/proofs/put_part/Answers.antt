-- `room::put_part` meets its contract: the part at a place is no longer than the value.
use Rattle.room.proofs.Laws.{laws, part_put}
use Rattle.std.proofs.Common.{rules}
use Rattle.room.proofs.put_part.Goals as goal

pub put_bytes-requires : goal.put_bytes-requires
put_bytes-requires c = search (rules, laws)

pub returns : goal.returns
returns c = part_put _ _ _ c.part.ensures _ _ _ _ c.put_bytes.ensures
