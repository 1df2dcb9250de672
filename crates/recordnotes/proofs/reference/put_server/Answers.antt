-- `recordnotes::reference::put_server` meets its contract: a case each.
use Rattle.recordnotes.proofs.ReferenceLaws.{laws}
use Rattle.std.proofs.Common.{rules}
use Rattle.recordnotes.proofs.reference.put_server.Goals as goal

pub returns-in-Traceable : goal.returns-in-Traceable
returns-in-Traceable c = search (rules, laws)

pub returns-in-GmidDomain : goal.returns-in-GmidDomain
returns-in-GmidDomain c = search (rules, laws)
