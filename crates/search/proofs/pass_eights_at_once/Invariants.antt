-- `search::pass_eights_at_once` meets its contract: where the one test of eight bytes fails, none of them is b.
use Rattle.text.proofs.Left.{Passed}
use Rattle.text.specs.Find.{before}
use lib.ListN.{length}
use Prim.Native.Nat.{◌+◌, ◌-◌}
use Rattle.search.proofs.pass_eights_at_once.Given as goal

abbrev pub invariant-loop-i : goal.invariant-loop-i
invariant-loop-i l = Passed (before l.b) l.s l.i

abbrev pub decreases-loop-i : goal.decreases-loop-i
decreases-loop-i l = length l.s + 8 - l.i
