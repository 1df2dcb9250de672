-- `roll::put_numbers` meets its contract: one item more, and LF.
use Rattle.rolltext.proofs.Laws.{laws}
use Rattle.std.proofs.Common.{rules}
use Rattle.rolltext.proofs.put_numbers.Goals as goal

pub returns : goal.returns
returns c = search (rules, laws)
