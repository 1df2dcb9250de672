use Rattle.counting.proofs.Laws.{laws}
use Rattle.counting.proofs.count_known.Reads as reads
use Rattle.counting.proofs.count_known.Lts as lts
use Rattle.counts.proofs.done.Reads as done-reads
use Rattle.counts.proofs.one_more.Reads as one-more-reads
use Rattle.counts.proofs.plus.Reads as plus-reads
use Rattle.slots.proofs.set_streams.Reads as set-streams-reads
use Rattle.slots.proofs.streams_at.Reads as streams-at-reads
use Rattle.std.proofs.Common.{rules}
use Rattle.counting.proofs.count_known.Goals as goal

-- src/lib.rt:19:1
pub returns : goal.returns
returns c = search (rules, laws)
