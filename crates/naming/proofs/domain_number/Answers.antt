use Rattle.naming.proofs.Laws.{laws}
use Rattle.std.proofs.Common.{rules}
use Rattle.naming.proofs.domain_number.Goals as goal

-- src/lib.rt:25:1
pub returns-in-Ptp : goal.returns-in-Ptp
returns-in-Ptp c = search (rules, laws)

-- src/lib.rt:25:1
pub returns-in_default : goal.returns-in_default
returns-in_default c = search (rules, laws)
