use Rattle.slots.proofs.Laws.{laws}
use Rattle.std.proofs.Common.{rules}
use Rattle.slots.proofs.value_at.Goals as goal

-- src/lib.rt:44:1
pub returns : goal.returns
returns c = search (rules, laws)
