-- `ipnumber::push` meets its contract: a law for each way out.
use Rattle.ipnumber.proofs.Held.{laws}
use Rattle.std.proofs.Common.{rules}
use Rattle.ipnumber.proofs.push.Goals as goal

pub returns-then-at-gt7 : goal.returns-then-at-gt7
returns-then-at-gt7 c = search (rules, laws)

pub returns : goal.returns
returns c = search (rules, laws)
