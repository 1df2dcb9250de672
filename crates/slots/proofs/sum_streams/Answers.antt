use Rattle.slots.proofs.Laws.{laws}
use Rattle.std.proofs.Common.{rules}
use Rattle.slots.proofs.sum_streams.Goals as goal

-- src/lib.rt:158:5
pub loop-i-init : goal.loop-i-init
loop-i-init c = search (rules, laws)

-- src/lib.rt:159:14
pub streams_at-requires : goal.streams_at-requires
streams_at-requires c = search (rules, laws)

-- src/lib.rt:159:14
pub overflow_cast-n : goal.overflow_cast-n
overflow_cast-n c = search (rules, laws)

-- src/lib.rt:159:9
pub overflow_add-n : goal.overflow_add-n
overflow_add-n c = search (rules, laws)

-- src/lib.rt:160:9
pub overflow_add-i : goal.overflow_add-i
overflow_add-i c = search (rules, laws)

-- src/lib.rt:158:5
pub loop-i-smaller : goal.loop-i-smaller
loop-i-smaller c = search (rules, laws)

-- src/lib.rt:158:5
pub loop-i-preserved : goal.loop-i-preserved
loop-i-preserved c = search (rules, laws)

-- src/lib.rt:153:1
pub returns : goal.returns
returns c = search (rules, laws)
