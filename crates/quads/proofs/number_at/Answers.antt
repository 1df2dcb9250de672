use Rattle.quads.proofs.Laws.{laws}
use Rattle.std.proofs.Common.{rules}
use Rattle.quads.proofs.number_at.Goals as goal

pub returns-in_default : goal.returns-in_default
returns-in_default c = search (rules, laws)

pub returns-in-len4-up : goal.returns-in-len4-up
returns-in-len4-up c = search (rules, laws)
