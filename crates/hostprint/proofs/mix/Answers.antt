-- `hostprint::mix` meets its contract: the sum in 32 bits.
use Rattle.hostprint.proofs.Laws.{laws}
use Rattle.std.proofs.Common.{rules}
use Rattle.hostprint.proofs.mix.Goals as goal

pub returns : goal.returns
returns c = search (rules, laws)
