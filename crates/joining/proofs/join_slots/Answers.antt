use Rattle.joining.proofs.Laws.{laws}
use Rattle.joining.proofs.join_slots.Reads as reads
use Rattle.joining.proofs.join_slots.Lts as lts
use Rattle.counts.proofs.add_to_domain.Reads as add-to-domain-reads
use Rattle.counts.proofs.done.Reads as done-reads
use Rattle.counts.proofs.take_from_domain.Reads as take-from-domain-reads
use Rattle.joining.proofs.move_streams.Reads as move-streams-reads
use Rattle.naming.proofs.domain_number.Reads as domain-number-reads
use Rattle.std.proofs.Common.{rules}
use Rattle.joining.proofs.join_slots.Goals as goal

-- src/lib.rt:44:9
pub returns-then-i-j : goal.returns-then-i-j
returns-then-i-j c = search (rules, laws)

-- src/lib.rt:33:1
pub returns : goal.returns
returns c = search (rules, laws)
