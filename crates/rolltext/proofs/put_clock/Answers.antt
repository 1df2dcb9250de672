-- `roll::put_clock` meets its contract: a free slot and a refused value have no line.
use Rattle.rolltext.proofs.Laws.{laws}
use Rattle.std.proofs.Common.{rules}
use Rattle.rolltext.proofs.put_clock.Goals as goal

pub returns-then-n-eq0 : goal.returns-then-n-eq0
returns-then-n-eq0 c = search (rules, laws)

pub returns-in_default : goal.returns-in_default
returns-in_default c = search (rules, laws)

pub put_counted-requires : goal.put_counted-requires
put_counted-requires c = search (rules, laws)

pub returns : goal.returns
returns c = search (rules, laws)
