use Rattle.slots.proofs.Laws.{laws}
use Rattle.std.proofs.Common.{rules}
use Rattle.slots.proofs.set_streams.Goals as goal

-- src/lib.rt:103:1
pub returns : goal.returns
returns c = search (rules, laws)
