-- `digits::put_hex_u64` meets its contract: the digits of n are those of what is left and then those that are made.
use Rattle.digits.proofs.Laws.{laws}
use Rattle.std.proofs.Common.{rules}
use Rattle.digits.proofs.put_hex_u64.Goals as goal

pub loop-place-preserved : goal.loop-place-preserved
loop-place-preserved c = search (rules, laws)

pub returns : goal.returns
returns c = search (rules, laws)
