-- `valueline::ok_line` meets its contract: the line has the length that is answered, and each part is put behind the one before it.
use Rattle.valueline.proofs.Laws.{laws}
use Rattle.std.proofs.Common.{rules}
use Rattle.valueline.proofs.ok_line.Goals as goal

pub returns-then-room-len : goal.returns-then-room-len
returns-then-room-len c = search (rules, laws)

pub returns : goal.returns
returns c = search (rules, laws)
