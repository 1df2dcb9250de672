use Rattle.counts.proofs.Laws.{laws}
use Rattle.std.proofs.Common.{rules}
use Rattle.counts.proofs.in_domain.Goals as goal

-- src/lib.rt:136:9
pub returns-then-d-ge128 : goal.returns-then-d-ge128
returns-then-d-ge128 c = search (rules, laws)

-- src/lib.rt:131:1
pub returns : goal.returns
returns c = search (rules, laws)
