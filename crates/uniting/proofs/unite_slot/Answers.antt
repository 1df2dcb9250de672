use Rattle.uniting.proofs.Laws.{laws}
use Rattle.uniting.proofs.unite_slot.Reads as reads
use Rattle.uniting.proofs.unite_slot.Lts as lts
use Rattle.joining.proofs.move_streams.Reads as move-streams-reads
use Rattle.uniting.proofs.reprint.Reads as reprint-reads
use Rattle.uniting.proofs.step_for.Reads as step-for-reads
use Rattle.std.proofs.Common.{rules}
use Rattle.uniting.proofs.unite_slot.Goals as goal

-- src/lib.rt:47:1
pub returns-in-Stay : goal.returns-in-Stay
returns-in-Stay c = search (rules, laws)

-- src/lib.rt:47:1
pub returns-in-Move : goal.returns-in-Move
returns-in-Move c = search (rules, laws)

-- src/lib.rt:47:1
pub returns-in-Print : goal.returns-in-Print
returns-in-Print c = search (rules, laws)
