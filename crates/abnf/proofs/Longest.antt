-- Laws of the longest front: it is the whole text where that is a text of the rule, and going on byte by byte finds it. Assumes nothing.
use Prim.Native.Nat.{ℕ, zero, suc, ◌+◌, ◌≤◌}
use mathlib.Core.Path.{◌≡◌, refl, ap, ◌∙◌}
use mathlib.Core.Bool.{Bool, true, false, cond}
use mathlib.Core.List.{List, [], ◌∷◌}
use native.Mathlib.Omega.{arith}
use lib.Dec.{eqb}
use lib.ListN.{length}
use borrow.Author.Tests.{eq-eqb, eqb-true}
use Rattle.text.specs.Find.{suc_or}
use Rattle.text.proofs.Bools.{by_bool, both_ways}
use Rattle.text.proofs.Cuts.{suc_or_le}
use Rattle.abnf.specs.Rule.{Rule, longest}

-- the same, going on: n bytes are passed, the longest front so far has `best`, and r is what may follow
unfoldable pub furthest : ℕ → ℕ → Rule → List ℕ → ℕ
furthest n best r [] = cond (r []) n best
furthest n best r (x ∷ s) = furthest (n + 1) (cond (r []) n best) (λ t. r (x ∷ t)) s

-- what is passed is no text of the rule, and more is to come, or nothing
pub furthest_more : (n best : ℕ) (r : Rule) (x : ℕ) (s : List ℕ) → r [] ≡ false
    → furthest n best r (x ∷ s) ≡ furthest (n + 1) best (λ t. r (x ∷ t)) s
unfolding furthest
furthest_more n best r x s e = ap (λ (b : Bool). furthest (n + 1) (cond b n best) (λ t. r (x ∷ t)) s) e

pub furthest_end : (n best : ℕ) (r : Rule) → r [] ≡ false → furthest n best r [] ≡ best
unfolding furthest
furthest_end n best r e = rw e

pub furthest_none : (n best : ℕ) (r : Rule) → ((t : List ℕ) → r t ≡ false) → (s : List ℕ) → furthest n best r s ≡ best
unfolding furthest
furthest_none n best r h [] = rw (h [])
furthest_none n best r h (x ∷ s) = rw (h []) (furthest_none (n + 1) best (λ t. r (x ∷ t)) (λ t. h (x ∷ t)) s)

-- a front that has bytes is the longest, and where there is none the one before
abbrev or_else : ℕ → ℕ → ℕ → ℕ
or_else zero n other = other
or_else (suc k) n other = n + suc k

furthest_is : (n best : ℕ) (r : Rule) (s : List ℕ) → furthest n best r s ≡ or_else (longest r s) n (cond (r []) n best)
unfolding furthest longest
furthest_is n best r [] = refl
furthest_is n best r (x ∷ s) =
    furthest_is (n + 1) (cond (r []) n best) (λ t. r (x ∷ t)) s
    ∙ go (longest (λ t. r (x ∷ t)) s) (r (x ∷ []))
  where
    go : (k : ℕ) (t : Bool) → or_else k (n + 1) (cond t (n + 1) (cond (r []) n best)) ≡ or_else (suc_or k (cond t 1 0)) n (cond (r []) n best)
    go zero true = refl
    go zero false = refl
    go (suc k) t = omega arith

-- a rule that the empty text meets: all that is passed counts
pub furthest_on : (n best : ℕ) (r : Rule) (s : List ℕ) → r [] ≡ true → furthest n best r s ≡ n + longest r s
furthest_on n best r s e = furthest_is n best r s ∙ rw e (go (longest r s))
  where
    go : (k : ℕ) → or_else k n n ≡ n + k
    go zero = omega arith
    go (suc k) = refl

pub longest_le : (p : Rule) (s : List ℕ) → longest p s ≤ length s
unfolding longest
longest_le p [] = omega arith
longest_le p (x ∷ s) = suc_or_le (longest (λ t. p (x ∷ t)) s) (length s) (p (x ∷ [])) (longest_le (λ t. p (x ∷ t)) s)

-- a whole text is its own longest front
longest_whole : (p : Rule) (s : List ℕ) → p s ≡ true → longest p s ≡ length s
unfolding longest
longest_whole p [] h = refl
longest_whole p (x ∷ s) h = rw (longest_whole (λ t. p (x ∷ t)) s h) (go s h)
  where
    go : (s : List ℕ) → p (x ∷ s) ≡ true → suc_or (length s) (cond (p (x ∷ [])) 1 0) ≡ suc (length s)
    go [] h = rw h
    go (y ∷ s) h = refl

whole_longest : (p : Rule) (x : ℕ) (s : List ℕ) → longest p (x ∷ s) ≡ suc (length s) → p (x ∷ s) ≡ true
unfolding longest
whole_longest p x [] h = by_bool (p (x ∷ [])) (λ e. e) (λ e. absurd (omega (arith, simp e at h)))
whole_longest p x (y ∷ s) h =
    whole_longest (λ t. p (x ∷ t)) y s (go (longest (λ t. p (x ∷ t)) (y ∷ s)) (p (x ∷ [])) h)
  where
    go : (k : ℕ) (t : Bool) → suc_or k (cond t 1 0) ≡ suc (suc (length s)) → k ≡ suc (length s)
    go zero true h = absurd (omega arith)
    go zero false h = absurd (omega arith)
    go (suc k) t h = omega arith

-- of a rule that the empty text meets, exactly the whole texts are their own longest fronts
pub longest_all : (p : Rule) → p [] ≡ true → (s : List ℕ) → p s ≡ eqb (longest p s) (length s)
longest_all p e s = both_ways (p s) (eqb (longest p s) (length s)) (λ h. eq-eqb _ _ (longest_whole p s h)) (go s)
  where
    go : (s : List ℕ) → eqb (longest p s) (length s) ≡ true → p s ≡ true
    go [] h = e
    go (x ∷ s) h = whole_longest p x s (eqb-true _ _ h)
