-- `lines::run` meets its contract: what is settled of all of the fragment is settled by what is left of it.
use Rattle.lines.proofs.Laws.{Run}
use lib.ListN.{length}
use Rattle.lines.specs.Private.Steps.{progress}
use Prim.Native.Nat.{◌-◌}
use Rattle.lines.proofs.run.Given as goal

abbrev pub invariant-loop-e : goal.invariant-loop-e
invariant-loop-e l = Run l.initial.memory l.begun l.text l.initial.room l.initial.totals l.memory l.room (progress l.at l.totals) l.len l.i

abbrev pub decreases-loop-e : goal.decreases-loop-e
decreases-loop-e l = length l.text - l.i
