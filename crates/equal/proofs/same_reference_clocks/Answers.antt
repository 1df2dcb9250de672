use Rattle.equal.proofs.Laws.{laws}
use Rattle.std.proofs.Common.{rules}
use Rattle.equal.proofs.same_reference_clocks.Goals as goal

pub returns-then-hosts_at : goal.returns-then-hosts_at
returns-then-hosts_at c = search (rules, laws)

pub returns-else-hosts_at : goal.returns-else-hosts_at
returns-else-hosts_at c = search (rules, laws)
