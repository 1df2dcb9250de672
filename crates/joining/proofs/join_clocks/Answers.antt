use Rattle.joining.proofs.Laws.{laws}
use Rattle.joining.proofs.join_clocks.Reads as reads
use Rattle.joining.proofs.join_clocks.Lts as lts
use Rattle.counts.proofs.refused.Reads as refused-reads
use Rattle.counts.proofs.used_slots.Reads as used-slots-reads
use Rattle.joining.proofs.join_slots.Reads as join-slots-reads
use Rattle.slots.proofs.find.Reads as find-reads
use Rattle.std.proofs.Common.{rules}
use Rattle.joining.proofs.join_clocks.Goals as goal

-- src/lib.rt:65:9
pub returns-then-used-i : goal.returns-then-used-i
returns-then-used-i c = search (rules, laws)

-- src/lib.rt:69:9
pub returns-then-used-j : goal.returns-then-used-j
returns-then-used-j c = search (rules, laws)

-- src/lib.rt:52:1
pub returns : goal.returns
returns c = search (rules, laws)
