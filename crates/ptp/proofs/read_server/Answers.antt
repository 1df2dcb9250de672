-- `ptp::read_server` meets its contract: one law for each way out, in the order of the tests.
use Rattle.ptp.proofs.Laws.{laws}
use Rattle.std.proofs.Common.{rules}
use Rattle.ptp.proofs.read_server.Goals as goal

pub returns-then-is_empty : goal.returns-then-is_empty
returns-then-is_empty c = search (rules, laws)

pub returns-then-is_word : goal.returns-then-is_word
returns-then-is_word c = search (rules, laws)
