-- Whether a rate is one: one law for each way out. Assumes nothing.
use Prim.Native.Nat.{ℕ}
use mathlib.Core.Path.{◌≡◌}
use mathlib.Core.Bool.{◌&&◌}
use lib.Dec.{eqb}
use borrow.Author.Tests.{eq-eqb, ne_eqb}

module _ (n d : ℕ) where
  pub one_over : n ≡ 1 → eqb d 1 ≡ (eqb n 1 && eqb d 1)
  one_over h = simp (eq-eqb n 1 h)

  pub not_one : (n ≡ 1 → ⊥) → eqb n 1 ≡ (eqb n 1 && eqb d 1)
  not_one h = simp (ne_eqb n 1 h)

pub ruleset laws = (
  one_over,
  not_one,
)
