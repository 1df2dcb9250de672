-- `roll::put_counted` meets its contract: the count, a space, the text and LF are put one behind the other.
use Rattle.rolltext.proofs.Laws.{laws}
use Rattle.std.proofs.Common.{rules}
use Rattle.rolltext.proofs.put_counted.Goals as goal

pub returns : goal.returns
returns c = search (rules, laws)
