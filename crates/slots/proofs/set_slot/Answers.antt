use Rattle.slots.proofs.Laws.{laws}
use Rattle.std.proofs.Common.{rules}
use Rattle.slots.proofs.set_slot.Goals as goal

-- src/lib.rt:129:5
pub put_slot-requires : goal.put_slot-requires
put_slot-requires c = search (rules, laws)

-- src/lib.rt:122:1
pub returns : goal.returns
returns c = search (rules, laws)
