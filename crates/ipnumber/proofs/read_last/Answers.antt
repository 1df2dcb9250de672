-- `ipnumber::read_last` meets its contract: a law for each way out.
use Rattle.ipnumber.proofs.Groups.{last_laws}
use Rattle.std.proofs.Common.{rules}
use Rattle.ipnumber.proofs.read_last.Goals as goal

pub returns-in_err-read_octets-in-None : goal.returns-in_err-read_octets-in-None
returns-in_err-read_octets-in-None c = search (rules, last_laws)

pub returns-in-Some : goal.returns-in-Some
returns-in-Some c = search (rules, last_laws)

pub returns-in_ok-read_octets-in-None : goal.returns-in_ok-read_octets-in-None
returns-in_ok-read_octets-in-None c = search (rules, last_laws)

pub returns-in-None-2 : goal.returns-in-None-2
returns-in-None-2 c = search (rules, last_laws)
