-- `recordnotes::reference::put_port` meets its contract: a case each.
use Rattle.recordnotes.proofs.ReferenceLaws.{laws}
use Rattle.std.proofs.Common.{rules}
use Rattle.recordnotes.proofs.reference.put_port.Goals as goal

pub returns-in-None : goal.returns-in-None
returns-in-None c = search (rules, laws)

pub returns-in-Some : goal.returns-in-Some
returns-in-Some c = search (rules, laws)
