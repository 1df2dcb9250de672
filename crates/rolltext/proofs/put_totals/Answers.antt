-- `roll::put_totals` meets its contract: the numbers are those of the roll and what its memory answers.
use Rattle.rolltext.proofs.Laws.{laws}
use Rattle.std.proofs.Common.{rules}
use Rattle.rolltext.proofs.put_totals.Goals as goal

pub returns : goal.returns
returns c = search (rules, laws)
