use Rattle.asking.proofs.Laws.{laws}
use Rattle.asking.proofs.clocks.Reads as reads
use Rattle.asking.proofs.clocks.Lts as lts
use Rattle.counts.proofs.used_slots.Reads as used-slots-reads
use Rattle.slots.proofs.count_taken.Reads as count-taken-reads
use Rattle.std.proofs.Common.{rules}
use Rattle.asking.proofs.clocks.Goals as goal

-- src/lib.rt:45:1
pub returns : goal.returns
returns c = search (rules, laws)
