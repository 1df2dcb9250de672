use Rattle.asking.proofs.Laws.{laws}
use Rattle.asking.proofs.clock_sum.Reads as reads
use Rattle.asking.proofs.clock_sum.Lts as lts
use Rattle.counts.proofs.used_slots.Reads as used-slots-reads
use Rattle.slots.proofs.sum_streams.Reads as sum-streams-reads
use Rattle.std.proofs.Common.{rules}
use Rattle.asking.proofs.clock_sum.Goals as goal

-- src/lib.rt:52:1
pub returns : goal.returns
returns c = search (rules, laws)
