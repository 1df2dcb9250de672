-- `lines::put_line` meets its contract: the answer stands in the part of the room behind the place, where that is long enough.
use Rattle.lines.proofs.Laws.{laws}
use Rattle.std.proofs.Common.{rules}
use Rattle.lines.proofs.put_line.Goals as goal

pub returns : goal.returns
returns c = search (rules, laws)
