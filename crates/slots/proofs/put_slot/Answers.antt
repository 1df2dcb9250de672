use Rattle.slots.proofs.Laws.{laws}
use Rattle.std.proofs.Common.{rules}
use Rattle.slots.proofs.put_slot.Goals as goal

-- src/lib.rt:110:1
pub returns : goal.returns
returns c = search (rules, laws)
