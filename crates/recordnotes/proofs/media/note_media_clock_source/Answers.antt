-- `recordnotes::note_media_clock_source` meets its contract: each part is put behind the one before it.
use Rattle.recordnotes.proofs.MediaLaws.{laws}
use Rattle.std.proofs.Common.{rules}
use Rattle.recordnotes.proofs.media.note_media_clock_source.Goals as goal

pub returns : goal.returns
returns c = search (rules, laws)
