-- `reply::reply_to_line` meets its contract: the room is long enough for any answer, or for this one, or it is left as it is.
use Rattle.reply.proofs.Laws.{laws}
use Rattle.std.proofs.Common.{rules}
use Rattle.reply.proofs.reply_to_line.Goals as goal

pub returns-then-room-ge-MOST_PRINTED : goal.returns-then-room-ge-MOST_PRINTED
returns-then-room-ge-MOST_PRINTED c = search (rules, laws)

pub returns-then-room-measured : goal.returns-then-room-measured
returns-then-room-measured c = search (rules, laws)

pub returns : goal.returns
returns c = search (rules, laws)
