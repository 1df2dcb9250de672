-- `recordnotes::parts::put_value` meets its contract: a case each.
use Rattle.recordnotes.proofs.PartsLaws.{laws}
use Rattle.std.proofs.Common.{rules}
use Rattle.recordnotes.proofs.parts.put_value.Goals as goal

pub returns-in-None : goal.returns-in-None
returns-in-None c = search (rules, laws)

pub returns-in-Some : goal.returns-in-Some
returns-in-Some c = search (rules, laws)
