use Rattle.counts.proofs.Laws.{laws}
use Rattle.std.proofs.Common.{rules}
use Rattle.counts.proofs.take_from_domain.Goals as goal

-- src/lib.rt:108:9
pub returns-then-domain-lt128 : goal.returns-then-domain-lt128
returns-then-domain-lt128 c = search (rules, laws)

-- src/lib.rt:101:1
pub returns : goal.returns
returns c = search (rules, laws)
