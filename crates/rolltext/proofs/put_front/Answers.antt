-- `roll::put_front` meets its contract: three items, one behind another.
use Rattle.rolltext.proofs.Laws.{laws}
use Rattle.std.proofs.Common.{rules}
use Rattle.rolltext.proofs.put_front.Goals as goal

pub returns : goal.returns
returns c = search (rules, laws)
