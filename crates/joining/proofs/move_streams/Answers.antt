use Rattle.joining.proofs.Laws.{laws}
use Rattle.joining.proofs.move_streams.Reads as reads
use Rattle.joining.proofs.move_streams.Lts as lts
use Rattle.joining.proofs.add_streams.Reads as add-streams-reads
use Rattle.slots.proofs.set_streams.Reads as set-streams-reads
use Rattle.std.proofs.Common.{rules}
use Rattle.joining.proofs.move_streams.Goals as goal

-- src/lib.rt:24:1
pub returns : goal.returns
returns c = search (rules, laws)
