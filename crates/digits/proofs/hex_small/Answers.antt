-- `digits::hex_small` meets its contract: the table has each digit at its place.
use Rattle.digits.proofs.Laws.{laws}
use Rattle.std.proofs.Common.{rules}
use Rattle.digits.proofs.hex_small.Goals as goal

pub returns : goal.returns
returns c = search (rules, laws)
