use Rattle.withdrawing.proofs.Laws.{laws}
use Rattle.withdrawing.proofs.withdraw_clock.Reads as reads
use Rattle.withdrawing.proofs.withdraw_clock.Lts as lts
use Rattle.counts.proofs.refused.Reads as refused-reads
use Rattle.counts.proofs.used_slots.Reads as used-slots-reads
use Rattle.slots.proofs.find.Reads as find-reads
use Rattle.withdrawing.proofs.withdraw_known.Reads as withdraw-known-reads
use Rattle.std.proofs.Common.{rules}
use Rattle.withdrawing.proofs.withdraw_clock.Goals as goal

-- src/lib.rt:30:9
pub returns-then-i-used : goal.returns-then-i-used
returns-then-i-used c = search (rules, laws)

-- src/lib.rt:24:1
pub returns : goal.returns
returns c = search (rules, laws)
