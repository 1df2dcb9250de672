-- `utf8::check_utf8` meets its contract: all that is passed is well-formed.
use Rattle.utf8.specs.Utf8.{utf8_octets}
use Rattle.abnf.specs.Rule.{longest}
use Rattle.text.proofs.Left.{Passed}
use Prim.Native.Nat.{◌-◌}
use lib.ListN.{length}
use Rattle.utf8.proofs.check_utf8.Given as goal

abbrev pub invariant-loop-at : goal.invariant-loop-at
invariant-loop-at l = Passed (longest utf8_octets) l.s l.at

abbrev pub decreases-loop-at : goal.decreases-loop-at
decreases-loop-at l = length l.s - l.at
