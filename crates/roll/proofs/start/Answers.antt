-- `roll::start` meets its contract: no line yet.
use Rattle.roll.proofs.Laws.{laws}
use Rattle.std.proofs.Common.{rules}
use Rattle.roll.proofs.start.Goals as goal

pub returns : goal.returns
returns c = search (rules, laws)
