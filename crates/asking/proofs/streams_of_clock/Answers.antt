use Rattle.asking.proofs.Laws.{laws}
use Rattle.asking.proofs.streams_of_clock.Reads as reads
use Rattle.asking.proofs.streams_of_clock.Lts as lts
use Rattle.counts.proofs.used_slots.Reads as used-slots-reads
use Rattle.slots.proofs.find.Reads as find-reads
use Rattle.slots.proofs.streams_at.Reads as streams-at-reads
use Rattle.std.proofs.Common.{rules}
use Rattle.asking.proofs.streams_of_clock.Goals as goal

-- src/lib.rt:25:9
pub returns-then-i-used : goal.returns-then-i-used
returns-then-i-used c = search (rules, laws)

-- src/lib.rt:19:1
pub returns : goal.returns
returns c = search (rules, laws)
