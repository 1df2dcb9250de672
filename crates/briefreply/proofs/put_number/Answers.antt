-- `briefreply::put_number` meets its contract: the digits and then the byte, by the law by which puts compose.
use Rattle.briefreply.proofs.Laws.{laws}
use Rattle.std.proofs.Common.{rules}
use Rattle.briefreply.proofs.put_number.Goals as goal

pub returns : goal.returns
returns c = search (rules, laws)
