use Rattle.joining.proofs.Laws.{laws}
use Rattle.joining.proofs.join.Reads as reads
use Rattle.joining.proofs.join.Lts as lts
use Rattle.counts.proofs.refused.Reads as refused-reads
use Rattle.joining.proofs.join_clocks.Reads as join-clocks-reads
use Rattle.refclk.proofs.read_reference_clock.Reads as read-reference-clock-reads
use Rattle.std.proofs.Common.{rules}
use Rattle.joining.proofs.join.Goals as goal

-- src/lib.rt:79:9
pub returns-then-memory-lt-LEAST_MEMORY : goal.returns-then-memory-lt-LEAST_MEMORY
returns-then-memory-lt-LEAST_MEMORY c = search (rules, laws)

-- src/lib.rt:83:9
pub returns-in_default : goal.returns-in_default
returns-in_default c = search (rules, laws)

-- src/lib.rt:87:9
pub returns-in_default-second : goal.returns-in_default-second
returns-in_default-second c = search (rules, laws)

-- src/lib.rt:75:1
pub returns : goal.returns
returns c = search (rules, laws)
