-- `recordnotes::media::put_id_kind` meets its contract: a case each.
use Rattle.recordnotes.proofs.MediaLaws.{laws}
use Rattle.std.proofs.Common.{rules}
use Rattle.recordnotes.proofs.media.put_id_kind.Goals as goal

pub returns-then-src : goal.returns-then-src
returns-then-src c = search (rules, laws)

pub returns-else-src : goal.returns-else-src
returns-else-src c = search (rules, laws)
