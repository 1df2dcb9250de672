-- `digits::put_decimal_u64` meets its contract: a number of 64 bits has at most twenty digits.
use Rattle.digits.proofs.Laws.{laws}
use Rattle.std.proofs.Common.{rules}
use Rattle.digits.proofs.put_decimal_u64.Goals as goal

pub returns : goal.returns
returns c = search (rules, laws)
