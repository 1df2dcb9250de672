use Rattle.slots.proofs.Laws.{laws}
use Rattle.std.proofs.Common.{rules}
use Rattle.slots.proofs.count_taken.Goals as goal

-- src/lib.rt:145:5
pub loop-i-init : goal.loop-i-init
loop-i-init c = search (rules, laws)

-- src/lib.rt:146:14
pub taken-n-requires : goal.taken-n-requires
taken-n-requires c = search (rules, laws)

-- src/lib.rt:146:9
pub overflow_add-n : goal.overflow_add-n
overflow_add-n c = search (rules, laws)

-- src/lib.rt:147:9
pub overflow_add-i : goal.overflow_add-i
overflow_add-i c = search (rules, laws)

-- src/lib.rt:145:5
pub loop-i-smaller : goal.loop-i-smaller
loop-i-smaller c = search (rules, laws)

-- src/lib.rt:145:5
pub loop-i-preserved : goal.loop-i-preserved
loop-i-preserved c = search (rules, laws)

-- src/lib.rt:140:1
pub returns : goal.returns
returns c = search (rules, laws)
