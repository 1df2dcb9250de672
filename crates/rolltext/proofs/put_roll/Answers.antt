-- `rolltext::put_roll` meets its contract: the totals are put behind the counts.
use Rattle.rolltext.proofs.Laws.{laws}
use Rattle.std.proofs.Common.{rules}
use Rattle.rolltext.proofs.put_roll.Goals as goal

pub returns : goal.returns
returns c = search (rules, laws)
