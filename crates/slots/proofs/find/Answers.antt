use Rattle.slots.proofs.Laws.{laws}
use Rattle.std.proofs.Common.{rules}
use Rattle.slots.proofs.find.Goals as goal

-- src/lib.rt:77:9
pub fingerprint-print-requires : goal.fingerprint-print-requires
fingerprint-print-requires c = search (rules, laws)

-- src/lib.rt:79:5
pub loop-i-init : goal.loop-i-init
loop-i-init c = search (rules, laws)

-- src/lib.rt:80:12
pub is_of_clock-requires : goal.is_of_clock-requires
is_of_clock-requires c = search (rules, laws)

-- src/lib.rt:81:13
pub returns-then-is_of_clock : goal.returns-then-is_of_clock
returns-then-is_of_clock c = search (rules, laws)

-- src/lib.rt:83:9
pub overflow_add-i : goal.overflow_add-i
overflow_add-i c = search (rules, laws)

-- src/lib.rt:79:5
pub loop-i-smaller : goal.loop-i-smaller
loop-i-smaller c = search (rules, laws)

-- src/lib.rt:79:5
pub loop-i-preserved : goal.loop-i-preserved
loop-i-preserved c = search (rules, laws)

-- src/lib.rt:74:1
pub returns : goal.returns
returns c = search (rules, laws)
