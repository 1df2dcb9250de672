use Rattle.quads.proofs.Laws.{laws}
use Rattle.std.proofs.Common.{rules}
use Rattle.quads.proofs.put_number.Goals as goal

pub returns : goal.returns
returns c = search (rules, laws)
