-- `search::find_from` meets its contract: none of the bytes passed is b.
use Prim.Native.Nat.{◌+◌}
use mathlib.Core.Path.{◌≡◌}
use lib.ListN.{drop}
use Rattle.text.specs.Find.{before}
use Rattle.search.proofs.find_from.Given as goal

abbrev pub invariant-loop-i : goal.invariant-loop-i
invariant-loop-i l = l.from + before l.b (drop l.from l.s) ≡ l.i + before l.b (drop l.i l.s)
