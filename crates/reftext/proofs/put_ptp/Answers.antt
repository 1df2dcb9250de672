-- `reftext::put_ptp` meets its contract: the parts are put one behind the other.
use Rattle.reftext.proofs.Laws.{laws}
use Rattle.std.proofs.Common.{rules}
use Rattle.reftext.proofs.put_ptp.Goals as goal

pub returns : goal.returns
returns c = search (rules, laws)
