use Rattle.counts.proofs.Laws.{laws}
use Rattle.std.proofs.Common.{rules}
use Rattle.counts.proofs.one_more.Goals as goal

-- src/lib.rt:114:1
pub returns : goal.returns
returns c = search (rules, laws)
