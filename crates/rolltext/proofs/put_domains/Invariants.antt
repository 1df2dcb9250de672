-- `roll::put_domains` meets its contract: the lines of the first numbers, one more each turn.
use Prim.Native.Nat.{◌-◌}
use Rattle.rolltext.specs.Printing.{domain_line}
use Rattle.rolltext.proofs.Laws.{RowsPut}
use Rattle.rolltext.proofs.put_domains.Given as goal

abbrev pub invariant-loop-number : goal.invariant-loop-number
invariant-loop-number l = RowsPut (domain_line l.census) 63 128 l.initial.room l.from l.number l.at l.room

abbrev pub decreases-loop-number : goal.decreases-loop-number
decreases-loop-number l = 128 - l.number
