-- `lines::start` meets its contract: the state of the empty text.
use Rattle.lines.proofs.Laws.{laws}
use Rattle.std.proofs.Common.{rules}
use Rattle.lines.proofs.start.Goals as goal

pub returns : goal.returns
returns c = search (rules, laws)
