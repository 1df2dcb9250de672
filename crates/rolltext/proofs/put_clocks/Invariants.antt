-- `roll::put_clocks` meets its contract: the lines of the first slots, one more each turn.
use Prim.Native.Nat.{◌-◌}
use Rattle.rolltext.specs.Printing.{clock_line}
use Rattle.rolltext.proofs.Laws.{RowsPut}
use Rattle.rolltext.proofs.put_clocks.Given as goal

abbrev pub invariant-loop-i : goal.invariant-loop-i
invariant-loop-i l = RowsPut (clock_line l.memory) 1038 l.used l.initial.room 0 l.i l.at l.room

abbrev pub decreases-loop-i : goal.decreases-loop-i
decreases-loop-i l = l.used - l.i
