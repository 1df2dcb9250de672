use Rattle.slots.proofs.Laws.{laws}
use Rattle.std.proofs.Common.{rules}
use Rattle.slots.proofs.streams_at.Goals as goal

-- src/lib.rt:37:1
pub returns : goal.returns
returns c = search (rules, laws)
