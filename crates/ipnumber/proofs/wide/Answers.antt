-- `ipnumber::wide` meets its contract: four octets, one by one.
use Rattle.ipnumber.proofs.Held.{laws}
use Rattle.std.proofs.Common.{rules}
use Rattle.ipnumber.proofs.wide.Goals as goal

pub returns : goal.returns
returns c = search (rules, laws)
