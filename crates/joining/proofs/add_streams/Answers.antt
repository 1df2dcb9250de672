use Rattle.joining.proofs.Laws.{laws}
use Rattle.joining.proofs.add_streams.Reads as reads
use Rattle.joining.proofs.add_streams.Lts as lts
use Rattle.counts.proofs.plus.Reads as plus-reads
use Rattle.slots.proofs.set_streams.Reads as set-streams-reads
use Rattle.slots.proofs.streams_at.Reads as streams-at-reads
use Rattle.std.proofs.Common.{rules}
use Rattle.joining.proofs.add_streams.Goals as goal

-- src/lib.rt:14:1
pub returns : goal.returns
returns c = search (rules, laws)
