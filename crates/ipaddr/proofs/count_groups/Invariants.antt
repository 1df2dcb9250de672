-- `ipaddr::count_groups` meets its contract: what is left is to be as many groups fewer as are done.
use lib.ListN.{length}
use Rattle.ipaddr.proofs.Groups.{Counting}
use Rattle.ipaddr.proofs.count_groups.Given as goal

abbrev pub invariant-loop-n : goal.invariant-loop-n
invariant-loop-n l = Counting l.four l.s l.done l.rest l.n

abbrev pub decreases-loop-n : goal.decreases-loop-n
decreases-loop-n l = length l.rest
