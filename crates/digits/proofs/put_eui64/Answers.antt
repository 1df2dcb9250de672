-- `digits::put_eui64` meets its contract: the segments of the number are those of what is left and then those that are made.
use Rattle.digits.proofs.Laws.{laws}
use Rattle.std.proofs.Common.{rules}
use Rattle.digits.proofs.put_eui64.Goals as goal

pub loop-segment-init : goal.loop-segment-init
loop-segment-init c = search (rules, laws)

pub loop-segment-preserved : goal.loop-segment-preserved
loop-segment-preserved c = search (rules, laws)

pub returns : goal.returns
returns c = search (rules, laws)
