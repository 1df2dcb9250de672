-- Bytes that no text of a rule has: `search free-laws depth 20` proves it of a whole grammar. Assumes nothing.
use Prim.Native.Nat.{ℕ, zero, suc}
use mathlib.Core.Path.{◌≡◌, refl}
use mathlib.Core.Bool.{Bool, true, false, ◌&&◌, and-false}
use mathlib.Core.List.{List, [], ◌∷◌}
use lib.Dec.{leb}
use Rattle.text.proofs.Bools.{by_bool, clash}
use Rattle.abnf.specs.Rule.{Rule, nothing, range, ◌or◌, ◌then◌, ◌then_many◌, times, upto}
use Rattle.abnf.proofs.Rules.{Free, then_none}
use Rattle.abnf.proofs.Many.{many_none}

-- no text of p has a c in it, as a record that a search can look for
pub record Lacks (c : ℕ) (p : Rule) : Type 0 where
  pub free : Free c p

module _ {c : ℕ} where
  pub lacks_nothing : Lacks c nothing
  unfolding nothing
  lacks_nothing = record { free = go }
    where
      go : Free c nothing
      go [] t = refl
      go (x ∷ s) t = refl

  pub lacks_range : (a z : ℕ) → (leb a c && leb c z) ≡ false → Lacks c (range a z)
  unfolding range
  lacks_range a z h = record { free = go }
    where
      go : Free c (range a z)
      go [] [] = h
      go [] (y ∷ t) = refl
      go (x ∷ []) t = refl
      go (x ∷ y ∷ s) t = refl

  free_then : (p q : Rule) → Free c p → Free c q → Free c (p then q)
  unfolding ◌then◌
  free_then p q f g [] t = rw (g [] t, and-false (p [])) (then_none (λ u. p (c ∷ u)) q (λ u. f [] u) t)
  free_then p q f g (x ∷ s) t = rw (g (x ∷ s) t, and-false (p [])) (free_then (λ u. p (x ∷ u)) q (λ u v. f (x ∷ u) v) g s t)

  pub lacks_then : {p q : Rule} → Lacks c p → Lacks c q → Lacks c (p then q)
  lacks_then {p} {q} f g = record { free = free_then p q f.free g.free }

  pub lacks_or : {p q : Rule} → Lacks c p → Lacks c q → Lacks c (p or q)
  unfolding ◌or◌
  lacks_or f g = record { free = λ s t. rw (f.free s t, g.free s t) }

  pub lacks_times : {p : Rule} (n : ℕ) → Lacks c p → Lacks c (times n p)
  unfolding times
  lacks_times zero f = lacks_nothing
  lacks_times (suc n) f = lacks_then f (lacks_times n f)

  pub lacks_upto : {p : Rule} (n : ℕ) → Lacks c p → Lacks c (upto n p)
  unfolding upto
  lacks_upto zero f = lacks_nothing
  lacks_upto (suc n) f = lacks_or lacks_nothing (lacks_then f (lacks_upto n f))

  free_many : (r p : Rule) → Free c r → Free c p → Free c (r then_many p)
  unfolding ◌then_many◌
  free_many r p f g [] t =
      rw (many_none p (λ u. p (c ∷ u)) (λ u. g [] u) t, and-false (r [])) (many_none p (λ u. r (c ∷ u)) (λ u. f [] u) t)
  free_many r p f g (x ∷ s) t =
      rw (free_many (λ u. p (x ∷ u)) p (λ u v. g (x ∷ u) v) g s t, and-false (r []))
      (free_many (λ u. r (x ∷ u)) p (λ u v. f (x ∷ u) v) g s t)

  pub lacks_many : {r p : Rule} → Lacks c r → Lacks c p → Lacks c (r then_many p)
  lacks_many {r} {p} f g = record { free = free_many r p f.free g.free }

pub ruleset free_laws = (lacks_nothing, lacks_range, lacks_then, lacks_or, lacks_times, lacks_upto, lacks_many)

-- every byte of a text passes a test
pub data All (ok : ℕ → Bool) : List ℕ → Type 0 where
  none : All ok []
  more : {b : ℕ} {s : List ℕ} → ok b ≡ true → All ok s → All ok (b ∷ s)

-- a text of a rule that has none of the other bytes
pub lacks_all : (ok : ℕ → Bool) (p : Rule) → ((c : ℕ) → ok c ≡ false → Free c p) → (s : List ℕ) → p s ≡ true → All ok s
lacks_all ok p f [] h = none
lacks_all ok p f (b ∷ s) h =
    by_bool (ok b) (λ e. more e (lacks_all ok (λ t. p (b ∷ t)) (λ c g u t. f c g (b ∷ u) t) s h))
    (λ e. clash (cc (f b e [] s)))
