use Rattle.withdrawing.proofs.Laws.{laws}
use Rattle.withdrawing.proofs.withdraw.Reads as reads
use Rattle.withdrawing.proofs.withdraw.Lts as lts
use Rattle.counts.proofs.refused.Reads as refused-reads
use Rattle.refclk.proofs.read_reference_clock.Reads as read-reference-clock-reads
use Rattle.withdrawing.proofs.withdraw_clock.Reads as withdraw-clock-reads
use Rattle.withdrawing.proofs.withdraw_refused.Reads as withdraw-refused-reads
use Rattle.std.proofs.Common.{rules}
use Rattle.withdrawing.proofs.withdraw.Goals as goal

-- src/lib.rt:52:9
pub returns-then-memory-lt-LEAST_MEMORY : goal.returns-then-memory-lt-LEAST_MEMORY
returns-then-memory-lt-LEAST_MEMORY c = search (rules, laws)

-- src/lib.rt:56:9
pub returns-in_default : goal.returns-in_default
returns-in_default c = search (rules, laws)

-- src/lib.rt:48:1
pub returns : goal.returns
returns c = search (rules, laws)
