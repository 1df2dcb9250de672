use Rattle.uniting.proofs.Laws.{laws}
use Rattle.uniting.proofs.unite_slots.Reads as reads
use Rattle.uniting.proofs.unite_slots.Lts as lts
use Rattle.uniting.proofs.unite_slot.Reads as unite-slot-reads
use Rattle.std.proofs.Common.{rules}
use Rattle.uniting.proofs.unite_slots.Goals as goal

-- src/lib.rt:67:5
pub loop-i-init : goal.loop-i-init
loop-i-init c = search (rules, laws)

-- src/lib.rt:68:9
pub unite_slot-requires : goal.unite_slot-requires
unite_slot-requires c = search (rules, laws)

-- src/lib.rt:69:9
pub overflow_add-i : goal.overflow_add-i
overflow_add-i c = search (rules, laws)

-- src/lib.rt:67:5
pub loop-i-smaller : goal.loop-i-smaller
loop-i-smaller c = search (rules, laws)

-- src/lib.rt:67:5
pub loop-i-preserved : goal.loop-i-preserved
loop-i-preserved c = search (rules, laws)

-- src/lib.rt:63:1
pub returns : goal.returns
returns c = search (rules, laws)
