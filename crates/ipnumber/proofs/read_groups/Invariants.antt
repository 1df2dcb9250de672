-- `ipnumber::read_groups` meets its contract: the groups before the place are held.
use lib.ListN.{length}
use Rattle.ipnumber.proofs.Groups.{Groups}
use Rattle.ipnumber.proofs.read_groups.Given as goal

abbrev pub invariant-loop-n : goal.invariant-loop-n
invariant-loop-n l = Groups l.four l.s l.w l.rest l.n

abbrev pub decreases-loop-n : goal.decreases-loop-n
decreases-loop-n l = length l.rest
