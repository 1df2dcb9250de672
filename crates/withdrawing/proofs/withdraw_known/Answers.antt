use Rattle.withdrawing.proofs.Laws.{laws}
use Rattle.withdrawing.proofs.withdraw_known.Reads as reads
use Rattle.withdrawing.proofs.withdraw_known.Lts as lts
use Rattle.counts.proofs.done.Reads as done-reads
use Rattle.counts.proofs.minus.Reads as minus-reads
use Rattle.counts.proofs.one_less.Reads as one-less-reads
use Rattle.slots.proofs.set_streams.Reads as set-streams-reads
use Rattle.slots.proofs.streams_at.Reads as streams-at-reads
use Rattle.std.proofs.Common.{rules}
use Rattle.withdrawing.proofs.withdraw_known.Goals as goal

-- src/lib.rt:15:1
pub returns : goal.returns
returns c = search (rules, laws)
