-- `roll::put_item` meets its contract: a word, and a number behind it.
use Rattle.rolltext.proofs.Laws.{laws}
use Rattle.std.proofs.Common.{rules}
use Rattle.rolltext.proofs.put_item.Goals as goal

pub returns : goal.returns
returns c = search (rules, laws)
