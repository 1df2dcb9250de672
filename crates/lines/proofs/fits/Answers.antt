-- `lines::fits` meets its contract: a text prints at most six bytes for each of its bytes; else what a run counts is the length.
use Rattle.lines.proofs.Laws.{laws}
use Rattle.std.proofs.Common.{rules}
use Rattle.lines.proofs.fits.Goals as goal

pub returns-then-most-room : goal.returns-then-most-room
returns-then-most-room c = search (rules, laws)

pub returns : goal.returns
returns c = search laws
