-- `digits::hex_capital` meets its contract: the table has each digit at its place.
use Rattle.digits.proofs.Laws.{laws}
use Rattle.std.proofs.Common.{rules}
use Rattle.digits.proofs.hex_capital.Goals as goal

pub returns : goal.returns
returns c = search (rules, laws)
