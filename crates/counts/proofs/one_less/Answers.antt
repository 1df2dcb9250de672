use Rattle.counts.proofs.Laws.{laws}
use Rattle.std.proofs.Common.{rules}
use Rattle.counts.proofs.one_less.Goals as goal

-- src/lib.rt:122:1
pub returns : goal.returns
returns c = search (rules, laws)
