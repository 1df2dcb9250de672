-- `ntp::read_ntp` meets its contract: the tests that failed decide which rule is left.
use Rattle.ntp.proofs.Laws.{laws}
use Rattle.std.proofs.Common.{arith}
use Rattle.ntp.proofs.read_ntp.Goals as goal

pub returns-then-has_prefix : goal.returns-then-has_prefix
returns-then-has_prefix c = grind (arith, laws)

pub returns : goal.returns
returns c = grind (arith, laws)
