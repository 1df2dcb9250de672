use Rattle.counting.proofs.Laws.{laws}
use Rattle.counting.proofs.count_refused.Reads as reads
use Rattle.counting.proofs.count_refused.Lts as lts
use Rattle.counts.proofs.done.Reads as done-reads
use Rattle.counts.proofs.plus.Reads as plus-reads
use Rattle.std.proofs.Common.{rules}
use Rattle.counting.proofs.count_refused.Goals as goal

-- src/lib.rt:63:1
pub returns : goal.returns
returns c = search (rules, laws)
