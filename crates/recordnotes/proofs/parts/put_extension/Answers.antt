-- `recordnotes::parts::put_extension` meets its contract: each part is put behind the one before it.
use Rattle.recordnotes.proofs.PartsLaws.{laws}
use Rattle.std.proofs.Common.{rules}
use Rattle.recordnotes.proofs.parts.put_extension.Goals as goal

pub returns : goal.returns
returns c = search (rules, laws)
