-- `hostprint::print_of_host` meets its contract: a law for an address, and one for a name.
use Rattle.hostprint.proofs.Laws.{laws}
use Rattle.std.proofs.Common.{rules}
use Rattle.hostprint.proofs.print_of_host.Goals as goal

pub returns-in-Some : goal.returns-in-Some
returns-in-Some c = search (rules, laws)

pub returns-in-None : goal.returns-in-None
returns-in-None c = search (rules, laws)
