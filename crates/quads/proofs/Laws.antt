-- One law for each way out of the crate's functions. Assumes nothing.
use Prim.Native.Nat.{ℕ, ◌+◌, ◌*◌, ◌/◌, ◌%◌, ◌≤◌, ◌<◌}
use mathlib.Core.Path.{◌≡◌, refl}
use mathlib.Core.List.{List, [], ◌∷◌}
use native.Mathlib.Omega.{arith}
use lib.ListN.{length, get_or}
use borrow.Author.Tests.{lt-ltb, le-ltb}
use Rattle.text.specs.Place.{place, Lent, PartAt}
use Rattle.room.specs.Put.{Put}
use Rattle.quads.specs.Quad.{quad, quad_of, number_at}

module _ (s : Lent) (at : ℕ) (p : Lent) (at-place : PartAt s (place at 4) p) where
  pub number_there : 4 ≤ length p.now → (r : ℕ)
      → r ≡ get_or p.now 0 0 * 16777216 + get_or p.now 1 0 * 65536 + get_or p.now 2 0 * 256 + get_or p.now 3 0 → r ≡ number_at s.now at
  unfolding number_at quad_of
  number_there h r e = rw (← at-place.bytes, le-ltb (length p.now) 4 h) (omega arith)

  pub number_cut : length p.now < 4 → 0 ≡ number_at s.now at
  unfolding number_at quad_of
  number_cut h = rw (← at-place.bytes, lt-ltb (length p.now) 4 h) refl

-- the high byte of four has no more above it
pub quad_put : (n : ℕ) → n < 4294967296 → (bytes : List ℕ)
    → bytes ≡ n / 16777216 % 256 ∷ n / 65536 % 256 ∷ n / 256 % 256 ∷ n % 256 ∷ []
    → {l x : List ℕ} {at r : ℕ} → Put (length bytes) l at bytes r x → Put 4 l at (quad n) r x
unfolding quad
quad_put n small bytes e {l} {x} {at} {r} p =
    let high : n / 16777216 % 256 ≡ n / 16777216 = omega arith in
    rw (e, high) at p

pub ruleset laws = (number_there, number_cut, quad_put)
