-- `search::find_in_eight` meets its contract: none of the bytes tried is b.
use Prim.Native.Nat.{◌+◌}
use mathlib.Core.Path.{◌≡◌}
use lib.ListN.{drop}
use Rattle.text.specs.Find.{before}
use Rattle.search.proofs.find_in_eight.Given as goal

abbrev pub invariant-loop-k : goal.invariant-loop-k
invariant-loop-k l = before l.b (drop l.i l.s) ≡ l.k + before l.b (drop (l.i + l.k) l.s)
