use Rattle.slots.proofs.Laws.{laws}
use Rattle.std.proofs.Common.{rules}
use Rattle.slots.proofs.taken.Goals as goal

-- src/lib.rt:134:9
pub returns-then-streams_at-eq0 : goal.returns-then-streams_at-eq0
returns-then-streams_at-eq0 c = search (rules, laws)

-- src/lib.rt:130:1
pub returns : goal.returns
returns c = search (rules, laws)
