-- `recordnotes::reference::put_private` meets its contract: a case each.
use Rattle.recordnotes.proofs.ReferenceLaws.{laws}
use Rattle.std.proofs.Common.{rules}
use Rattle.recordnotes.proofs.reference.put_private.Goals as goal

pub returns-in-Standard : goal.returns-in-Standard
returns-in-Standard c = search (rules, laws)

pub returns-in-Traceable : goal.returns-in-Traceable
returns-in-Traceable c = search (rules, laws)
