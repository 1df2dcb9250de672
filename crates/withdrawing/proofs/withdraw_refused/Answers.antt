use Rattle.withdrawing.proofs.Laws.{laws}
use Rattle.withdrawing.proofs.withdraw_refused.Reads as reads
use Rattle.withdrawing.proofs.withdraw_refused.Lts as lts
use Rattle.counts.proofs.done.Reads as done-reads
use Rattle.counts.proofs.minus.Reads as minus-reads
use Rattle.counts.proofs.refused.Reads as refused-reads
use Rattle.std.proofs.Common.{rules}
use Rattle.withdrawing.proofs.withdraw_refused.Goals as goal

-- src/lib.rt:40:9
pub returns-then-census-eq0 : goal.returns-then-census-eq0
returns-then-census-eq0 c = search (rules, laws)

-- src/lib.rt:36:1
pub returns : goal.returns
returns c = search (rules, laws)
