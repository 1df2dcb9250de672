-- `lines::put_totals` meets its contract: the totals stand in the part of the room behind the place, where that is long enough.
use Rattle.lines.proofs.Laws.{laws}
use Rattle.std.proofs.Common.{rules}
use Rattle.lines.proofs.put_totals.Goals as goal

pub returns : goal.returns
returns c = search (rules, laws)
