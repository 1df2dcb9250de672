-- `digits::put_decimal` meets its contract: a number of 32 bits has at most ten digits.
use Rattle.digits.proofs.Laws.{laws}
use Rattle.std.proofs.Common.{rules}
use Rattle.digits.proofs.put_decimal.Goals as goal

pub returns : goal.returns
returns c = search (rules, laws)
