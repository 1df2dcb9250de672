-- `ipnumber::value` meets its contract: what is left gives the value of all, and a value only grows.
use Rattle.ipnumber.proofs.Held.{laws}
use Rattle.std.proofs.Common.{rules}
use Rattle.ipnumber.proofs.value.Goals as goal

pub overflow_mul-v : goal.overflow_mul-v
overflow_mul-v c = search (rules, laws)

pub overflow_add-v : goal.overflow_add-v
overflow_add-v c = search (rules, laws)

pub loop-b-preserved : goal.loop-b-preserved
loop-b-preserved c = search (rules, laws)

pub returns : goal.returns
returns c = search (rules, laws)
