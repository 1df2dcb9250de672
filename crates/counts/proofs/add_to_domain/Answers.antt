use Rattle.counts.proofs.Laws.{laws}
use Rattle.std.proofs.Common.{rules}
use Rattle.counts.proofs.add_to_domain.Goals as goal

-- src/lib.rt:95:9
pub returns-then-domain-lt128 : goal.returns-then-domain-lt128
returns-then-domain-lt128 c = search (rules, laws)

-- src/lib.rt:88:1
pub returns : goal.returns
returns c = search (rules, laws)
