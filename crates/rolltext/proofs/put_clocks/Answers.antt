-- `roll::put_clocks` meets its contract: the lines of the first slots, one more each turn.
use Rattle.rolltext.proofs.Laws.{laws}
use Rattle.std.proofs.Common.{rules}
use Rattle.rolltext.proofs.put_clocks.Goals as goal

pub loop-i-init : goal.loop-i-init
loop-i-init c = search (rules, laws)

pub put_clock-at-requires : goal.put_clock-at-requires
put_clock-at-requires c = search (rules, laws)

pub overflow_add-i : goal.overflow_add-i
overflow_add-i c = search (rules, laws)

pub loop-i-smaller : goal.loop-i-smaller
loop-i-smaller c = search (rules, laws)

pub loop-i-preserved : goal.loop-i-preserved
loop-i-preserved c = search (rules, laws)

pub returns : goal.returns
returns c = search (rules, laws)
