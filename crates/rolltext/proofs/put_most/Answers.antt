-- `roll::put_most` meets its contract: the front and two more items.
use Rattle.rolltext.proofs.Laws.{laws}
use Rattle.std.proofs.Common.{rules}
use Rattle.rolltext.proofs.put_most.Goals as goal

pub returns : goal.returns
returns c = search (rules, laws)
