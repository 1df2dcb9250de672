use Rattle.slots.proofs.Laws.{laws}
use Rattle.std.proofs.Common.{rules}
use Rattle.slots.proofs.is_of_clock.Goals as goal

-- src/lib.rt:73:9
pub returns-then-print_at-print : goal.returns-then-print_at-print
returns-then-print_at-print c = search (rules, laws)

-- src/lib.rt:76:9
pub returns-then-streams_at-eq0 : goal.returns-then-streams_at-eq0
returns-then-streams_at-eq0 c = search (rules, laws)

-- src/lib.rt:81:9
pub returns-in_default : goal.returns-in_default
returns-in_default c = search (rules, laws)

-- src/lib.rt:68:1
pub returns : goal.returns
returns c = search (rules, laws)
