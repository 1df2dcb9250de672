use Rattle.counting.proofs.Laws.{laws}
use Rattle.counting.proofs.count_new.Reads as reads
use Rattle.counting.proofs.count_new.Lts as lts
use Rattle.counting.proofs.greatest.Reads as greatest-reads
use Rattle.counts.proofs.done.Reads as done-reads
use Rattle.counts.proofs.one_more.Reads as one-more-reads
use Rattle.counts.proofs.refused.Reads as refused-reads
use Rattle.counts.proofs.used_slots.Reads as used-slots-reads
use Rattle.equal.proofs.fingerprint.Reads as fingerprint-reads
use Rattle.slots.proofs.find_free.Reads as find-free-reads
use Rattle.slots.proofs.set_slot.Reads as set-slot-reads
use Rattle.std.proofs.Common.{rules}
use Rattle.counting.proofs.count_new.Goals as goal

-- src/lib.rt:35:9
pub returns-then-i-ge-MOST_CLOCKS : goal.returns-then-i-ge-MOST_CLOCKS
returns-then-i-ge-MOST_CLOCKS c = search (rules, laws)

-- src/lib.rt:28:1
pub returns : goal.returns
returns c = search (rules, laws)
