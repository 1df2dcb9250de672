-- `digits::put_hex_byte` meets its contract: two bytes, one behind the other.
use Rattle.digits.proofs.Laws.{laws}
use Rattle.std.proofs.Common.{rules}
use Rattle.digits.proofs.put_hex_byte.Goals as goal

pub returns : goal.returns
returns c = search (rules, laws)
