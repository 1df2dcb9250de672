use Rattle.slots.proofs.Laws.{laws}
use Rattle.std.proofs.Common.{rules}
use Rattle.slots.proofs.set_print.Goals as goal

-- src/lib.rt:124:1
pub returns : goal.returns
returns c = search (rules, laws)
