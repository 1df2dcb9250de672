-- `mediarecord::Rate::is_one` meets its contract: the numerator's test decides whether the denominator's is the answer.
use Rattle.mediarecord.proofs.Laws.{laws}
use Rattle.std.proofs.Common.{rules}
use Rattle.mediarecord.proofs.Rate.is_one.Goals as goal

pub returns-then-self-eq1 : goal.returns-then-self-eq1
returns-then-self-eq1 c = search (rules, laws)

pub returns-else-self-eq1 : goal.returns-else-self-eq1
returns-else-self-eq1 c = search (rules, laws)
