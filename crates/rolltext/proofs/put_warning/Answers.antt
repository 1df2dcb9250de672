-- `roll::put_warning` meets its contract: nothing where no stream is uncounted, else two texts with the number between them.
use Rattle.rolltext.proofs.Laws.{laws}
use Rattle.std.proofs.Common.{rules}
use Rattle.rolltext.proofs.put_warning.Goals as goal

pub returns-then-uncounted-eq0 : goal.returns-then-uncounted-eq0
returns-then-uncounted-eq0 c = search (rules, laws)

pub returns : goal.returns
returns c = search (rules, laws)
