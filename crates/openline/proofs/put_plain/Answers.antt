-- `openline::put_plain` meets its contract: the answer stands in the part of the room behind the place, where that is long enough.
use Rattle.openline.proofs.Laws.{laws}
use Rattle.std.proofs.Common.{rules}
use Rattle.openline.proofs.put_plain.Goals as goal

pub returns : goal.returns
returns c = search (rules, laws)
