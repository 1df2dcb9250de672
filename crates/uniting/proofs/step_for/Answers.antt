use Rattle.uniting.proofs.Laws.{laws}
use Rattle.uniting.proofs.step_for.Reads as reads
use Rattle.uniting.proofs.step_for.Lts as lts
use Rattle.equal.proofs.fingerprint.Reads as fingerprint-reads
use Rattle.refclk.proofs.read_reference_clock.Reads as read-reference-clock-reads
use Rattle.slots.proofs.find.Reads as find-reads
use Rattle.slots.proofs.streams_at.Reads as streams-at-reads
use Rattle.slots.proofs.value_at.Reads as value-at-reads
use Rattle.std.proofs.Common.{rules}
use Rattle.uniting.proofs.step_for.Goals as goal

-- src/lib.rt:23:9
pub returns-then-streams_at-eq0 : goal.returns-then-streams_at-eq0
returns-then-streams_at-eq0 c = search (rules, laws)

-- src/lib.rt:28:9
pub returns-in_default : goal.returns-in_default
returns-in_default c = search (rules, laws)

-- src/lib.rt:32:9
pub returns-then-j-i : goal.returns-then-j-i
returns-then-j-i c = search (rules, laws)

-- src/lib.rt:19:1
pub returns : goal.returns
returns c = search (rules, laws)
