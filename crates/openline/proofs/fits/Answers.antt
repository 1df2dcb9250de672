-- `openline::fits` meets its contract: a text prints at most six bytes for each of its bytes; else what a run counts is the length.
use Rattle.openline.proofs.Laws.{laws}
use Rattle.std.proofs.Common.{rules}
use Rattle.openline.proofs.fits.Goals as goal

pub returns-then-most-room : goal.returns-then-most-room
returns-then-most-room c = search (rules, laws)

pub returns : goal.returns
returns c = search (rules, laws)
