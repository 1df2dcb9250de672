-- `recordnotes::media::put_direct` meets its contract: each part is put behind the one before it.
use Rattle.recordnotes.proofs.MediaLaws.{laws}
use Rattle.std.proofs.Common.{rules}
use Rattle.recordnotes.proofs.media.put_direct.Goals as goal

pub returns : goal.returns
returns c = search (rules, laws)
