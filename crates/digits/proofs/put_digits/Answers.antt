-- `digits::put_digits` meets its contract: the digits of n are those of what is left and then those that are made.
use Rattle.digits.proofs.Laws.{laws}
use Rattle.std.proofs.Common.{rules}
use Rattle.digits.proofs.put_digits.Goals as goal

pub loop-left-init : goal.loop-left-init
loop-left-init c = search (rules, laws)

pub overflow_sub-first : goal.overflow_sub-first
overflow_sub-first c = search (rules, laws)

pub loop-left-preserved : goal.loop-left-preserved
loop-left-preserved c = search (rules, laws)

pub returns : goal.returns
returns c = search (rules, laws)
