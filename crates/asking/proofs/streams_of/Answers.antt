use Rattle.asking.proofs.Laws.{laws}
use Rattle.asking.proofs.streams_of.Reads as reads
use Rattle.asking.proofs.streams_of.Lts as lts
use Rattle.asking.proofs.streams_of_clock.Reads as streams-of-clock-reads
use Rattle.refclk.proofs.read_reference_clock.Reads as read-reference-clock-reads
use Rattle.std.proofs.Common.{rules}
use Rattle.asking.proofs.streams_of.Goals as goal

-- src/lib.rt:35:9
pub returns-then-memory-lt-LEAST_MEMORY : goal.returns-then-memory-lt-LEAST_MEMORY
returns-then-memory-lt-LEAST_MEMORY c = search (rules, laws)

-- src/lib.rt:39:9
pub returns-in_default : goal.returns-in_default
returns-in_default c = search (rules, laws)

-- src/lib.rt:31:1
pub returns : goal.returns
returns c = search (rules, laws)
