-- `rolltext::put_counts` meets its contract: the clocks and the domain numbers are put one behind the other.
use Rattle.rolltext.proofs.Laws.{laws}
use Rattle.std.proofs.Common.{rules}
use Rattle.rolltext.proofs.put_counts.Goals as goal

pub returns : goal.returns
returns c = search (rules, laws)
