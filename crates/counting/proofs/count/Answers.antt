use Rattle.counting.proofs.Laws.{laws}
use Rattle.counting.proofs.count.Reads as reads
use Rattle.counting.proofs.count.Lts as lts
use Rattle.counting.proofs.count_clock.Reads as count-clock-reads
use Rattle.counting.proofs.count_refused.Reads as count-refused-reads
use Rattle.counts.proofs.refused.Reads as refused-reads
use Rattle.refclk.proofs.read_reference_clock.Reads as read-reference-clock-reads
use Rattle.std.proofs.Common.{rules}
use Rattle.counting.proofs.count.Goals as goal

-- src/lib.rt:76:9
pub returns-then-memory-lt-LEAST_MEMORY : goal.returns-then-memory-lt-LEAST_MEMORY
returns-then-memory-lt-LEAST_MEMORY c = search (rules, laws)

-- src/lib.rt:79:9
pub returns-then-census-ge-MOST_STREAMS : goal.returns-then-census-ge-MOST_STREAMS
returns-then-census-ge-MOST_STREAMS c = search (rules, laws)

-- src/lib.rt:83:9
pub returns-in_default : goal.returns-in_default
returns-in_default c = search (rules, laws)

-- src/lib.rt:85:5
pub count_clock-requires : goal.count_clock-requires
count_clock-requires c = search (rules, laws)

-- src/lib.rt:72:1
pub returns : goal.returns
returns c = search (rules, laws)
