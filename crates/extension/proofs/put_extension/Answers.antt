-- `extension::put_extension` meets its contract: the parts are put one behind the other.
use Rattle.extension.proofs.Laws.{laws}
use Rattle.std.proofs.Common.{rules}
use Rattle.extension.proofs.put_extension.Goals as goal

pub returns : goal.returns
returns c = search (rules, laws)
