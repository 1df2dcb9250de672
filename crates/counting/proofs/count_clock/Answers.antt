use Rattle.counting.proofs.Laws.{laws}
use Rattle.counting.proofs.count_clock.Reads as reads
use Rattle.counting.proofs.count_clock.Lts as lts
use Rattle.counting.proofs.count_known.Reads as count-known-reads
use Rattle.counting.proofs.count_new.Reads as count-new-reads
use Rattle.counts.proofs.used_slots.Reads as used-slots-reads
use Rattle.slots.proofs.find.Reads as find-reads
use Rattle.std.proofs.Common.{rules}
use Rattle.counting.proofs.count_clock.Goals as goal

-- src/lib.rt:57:9
pub returns-then-i-used : goal.returns-then-i-used
returns-then-i-used c = search (rules, laws)

-- src/lib.rt:50:1
pub returns : goal.returns
returns c = search (rules, laws)
