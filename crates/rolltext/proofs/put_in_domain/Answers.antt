-- `roll::put_in_domain` meets its contract: two items and LF.
use Rattle.rolltext.proofs.Laws.{laws}
use Rattle.std.proofs.Common.{rules}
use Rattle.rolltext.proofs.put_in_domain.Goals as goal

pub returns : goal.returns
returns c = search (rules, laws)
