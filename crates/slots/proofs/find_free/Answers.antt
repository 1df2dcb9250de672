use Rattle.slots.proofs.Laws.{laws}
use Rattle.std.proofs.Common.{rules}
use Rattle.slots.proofs.find_free.Goals as goal

-- src/lib.rt:93:5
pub loop-i-init : goal.loop-i-init
loop-i-init c = search (rules, laws)

-- src/lib.rt:94:12
pub streams_at-requires : goal.streams_at-requires
streams_at-requires c = search (rules, laws)

-- src/lib.rt:95:13
pub returns-then-streams_at-eq0 : goal.returns-then-streams_at-eq0
returns-then-streams_at-eq0 c = search (rules, laws)

-- src/lib.rt:97:9
pub overflow_add-i : goal.overflow_add-i
overflow_add-i c = search (rules, laws)

-- src/lib.rt:93:5
pub loop-i-smaller : goal.loop-i-smaller
loop-i-smaller c = search (rules, laws)

-- src/lib.rt:93:5
pub loop-i-preserved : goal.loop-i-preserved
loop-i-preserved c = search (rules, laws)

-- src/lib.rt:89:1
pub returns : goal.returns
returns c = search (rules, laws)
