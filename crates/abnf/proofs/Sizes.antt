-- How long the texts of a rule are, and how many bytes c they have. Assumes nothing.
use Prim.Native.Nat.{ℕ, zero, suc, ◌+◌, ◌≤◌, min, max}
use mathlib.Core.Path.{◌≡◌, refl, sym, ◌∙◌}
use mathlib.Core.Bool.{true, false, cond, ◌&&◌}
use mathlib.Core.List.{List, [], ◌∷◌, ◌++◌}
use native.Mathlib.Omega.{arith}
use lib.Dec.{eqb, leb}
use lib.ListN.{length, length-append}
use borrow.Author.Tests.{eqb-true}
use Rattle.text.specs.Find.{through_last}
use Rattle.text.proofs.Bools.{by_bool, clash, or_elim}
use Rattle.text.proofs.Cuts.{last_cons}
use Rattle.abnf.specs.Rule.{Rule, nothing, range, byte, ◌or◌, ◌then◌, maybe, times, upto}
use Rattle.abnf.proofs.Rules.{byte_is, then_split}

-- how many bytes c a text has
unfoldable pub count_of : ℕ → List ℕ → ℕ
count_of c [] = 0
count_of c (b ∷ s) = cond (eqb b c) 1 0 + count_of c s

pub count_append : (c : ℕ) (s t : List ℕ) → count_of c (s ++ t) ≡ count_of c s + count_of c t
unfolding count_of
count_append c [] t = omega arith
count_append c (b ∷ s) t = omega (arith, count_append c s t)

pub count_none : (c : ℕ) (s : List ℕ) → through_last c s ≡ 0 → count_of c s ≡ 0
unfolding count_of
count_none c [] h = refl
count_none c (b ∷ s) h = let p = last_cons c b s h in simp (p.0, count_none c s p.1)

-- from few to many bytes c, and at most size bytes
pub record Sized (c few many size : ℕ) (s : List ℕ) : Type 0 where
  pub least : few ≤ count_of c s
  pub most : count_of c s ≤ many
  pub short : length s ≤ size

abbrev pub Sizes : ℕ → ℕ → ℕ → ℕ → Rule → Type 0
Sizes c few many size p = (s : List ℕ) → p s ≡ true → Sized c few many size s

-- n, k times over
abbrev pub scale : ℕ → ℕ → ℕ
scale zero n = 0
scale (suc k) n = n + scale k n

module _ {c : ℕ} where
  pub sizes_nothing : Sizes c 0 0 0 nothing
  unfolding nothing count_of
  sizes_nothing [] h = record { least = omega arith; most = omega arith; short = omega arith }
  sizes_nothing (x ∷ s) h = clash (cc)

  pub sizes_range : (a z : ℕ) → (leb a c && leb c z) ≡ false → Sizes c 0 0 1 (range a z)
  unfolding range count_of
  sizes_range a z e [] h = clash (cc)
  sizes_range a z e (x ∷ []) h =
      by_bool (eqb x c) (λ f. clash (cc (eqb-true x c f)))
      (λ f. record { least = omega arith; most = simp f (omega arith); short = omega arith })
  sizes_range a z e (x ∷ y ∷ s) h = clash (cc)

  pub sizes_byte : Sizes c 1 1 1 (byte c)
  unfolding range count_of
  sizes_byte [] h = clash (cc)
  sizes_byte (x ∷ []) h =
      let e : eqb x c ≡ true = sym (byte_is c x) ∙ h in
      record { least = simp e (omega arith); most = simp e (omega arith); short = omega arith }
  sizes_byte (x ∷ y ∷ s) h = clash (cc)

  module _ {a b m d e n : ℕ} {p q : Rule} (f : Sizes c a b m p) (g : Sizes c d e n q) where
    pub sizes_then : Sizes c (a + d) (b + e) (m + n) (p then q)
    sizes_then s h =
        let k = then_split p q s h in
        let u = f k.front k.first in
        let v = g k.back k.second in
        rw k.is at (joined k.front k.back u v)
      where
        joined : (x y : List ℕ) → Sized c a b m x → Sized c d e n y → Sized c (a + d) (b + e) (m + n) (x ++ y)
        joined x y u v =
            record {
              least = omega (arith, count_append c x y);
              most = omega (arith, count_append c x y);
              short = omega (arith, length-append x y);
            }

    pub sizes_or : Sizes c (min a d) (max b e) (max m n) (p or q)
    unfolding ◌or◌
    sizes_or s h =
        or_elim (p s) (q s)
        (λ k. let u = f s k in record { least = omega arith; most = omega arith; short = omega arith })
        (λ k. let u = g s k in record { least = omega arith; most = omega arith; short = omega arith }) h

  pub sizes_wider : {a b m d e n : ℕ} {p : Rule} → d ≤ a → b ≤ e → m ≤ n → Sizes c a b m p → Sizes c d e n p
  sizes_wider h k l f s i = let u = f s i in record { least = omega arith; most = omega arith; short = omega arith }

  pub sizes_maybe : {a b m : ℕ} {p : Rule} → Sizes c a b m p → Sizes c 0 b m (maybe p)
  sizes_maybe f = sizes_wider (omega arith) (omega arith) (omega arith) (sizes_or sizes_nothing f)

  pub sizes_times : {a b m : ℕ} {p : Rule} (k : ℕ) → Sizes c a b m p → Sizes c (scale k a) (scale k b) (scale k m) (times k p)
  unfolding times
  sizes_times zero f = sizes_nothing
  sizes_times (suc k) f = sizes_then f (sizes_times k f)

  pub sizes_upto : {a b m : ℕ} {p : Rule} (k : ℕ) → Sizes c a b m p → Sizes c 0 (scale k b) (scale k m) (upto k p)
  unfolding upto
  sizes_upto zero f = sizes_nothing
  sizes_upto (suc k) f =
      sizes_wider (omega arith) (omega arith) (omega arith) (sizes_or sizes_nothing (sizes_then f (sizes_upto k f)))
