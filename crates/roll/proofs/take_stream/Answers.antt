-- `roll::take_stream` meets its contract: what counting answers and leaves, and one more of those that it refuses.
use Rattle.roll.proofs.Laws.{laws}
use Rattle.std.proofs.Common.{rules}
use Rattle.roll.proofs.take_stream.Goals as goal

pub returns : goal.returns
returns c = search (rules, laws)
