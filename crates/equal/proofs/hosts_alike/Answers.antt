-- `equal::hosts_alike` meets its contract.
use Rattle.equal.proofs.Laws.{laws}
use Rattle.std.proofs.Common.{rules}
use Rattle.equal.proofs.hosts_alike.Goals as goal

pub returns : goal.returns
returns c = search (rules, laws)
