use Rattle.uniting.proofs.Laws.{laws}
use Rattle.uniting.proofs.unite.Reads as reads
use Rattle.uniting.proofs.unite.Lts as lts
use Rattle.counts.proofs.done.Reads as done-reads
use Rattle.counts.proofs.refused.Reads as refused-reads
use Rattle.counts.proofs.used_slots.Reads as used-slots-reads
use Rattle.uniting.proofs.unite_slots.Reads as unite-slots-reads
use Rattle.std.proofs.Common.{rules}
use Rattle.uniting.proofs.unite.Goals as goal

-- src/lib.rt:78:9
pub returns-then-memory-lt-LEAST_MEMORY : goal.returns-then-memory-lt-LEAST_MEMORY
returns-then-memory-lt-LEAST_MEMORY c = search (rules, laws)

-- src/lib.rt:74:1
pub returns : goal.returns
returns c = search (rules, laws)
