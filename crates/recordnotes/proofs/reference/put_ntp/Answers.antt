-- `recordnotes::reference::put_ntp` meets its contract: a case each.
use Rattle.recordnotes.proofs.ReferenceLaws.{laws}
use Rattle.std.proofs.Common.{rules}
use Rattle.recordnotes.proofs.reference.put_ntp.Goals as goal

pub returns-in-Traceable : goal.returns-in-Traceable
returns-in-Traceable c = search (rules, laws)

pub returns-in-HostPort : goal.returns-in-HostPort
returns-in-HostPort c = search (rules, laws)
