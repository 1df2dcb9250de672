-- `recordnotes::reference::put_ptp` meets its contract: each part is put behind the one before it.
use Rattle.recordnotes.proofs.ReferenceLaws.{laws}
use Rattle.std.proofs.Common.{rules}
use Rattle.recordnotes.proofs.reference.put_ptp.Goals as goal

pub returns : goal.returns
returns c = search (rules, laws)
