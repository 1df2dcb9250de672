-- A text that is cut at its first separator, said by the place of that separator. Assumes nothing.
use Prim.Native.Nat.{ℕ, suc, ◌<◌}
use mathlib.Core.Path.{◌≡◌, refl, sym, ap, ◌∙◌}
use mathlib.Core.Bool.{false, cond, ◌&&◌, and-false}
use mathlib.Core.List.{List, [], ◌∷◌, ◌++◌}
use native.Mathlib.Omega.{arith}
use lib.Dec.{ltb, eqb, leb-suc-suc}
use lib.ListN.{length, take, drop}
use borrow.Author.Tests.{lt-ltb, eq-eqb}
use Rattle.text.specs.Find.{before, before_pair}
use Rattle.text.proofs.Bools.{by_bool}
use Rattle.text.proofs.Cuts.{cut_first}
use Rattle.abnf.specs.Rule.{Rule, byte, ◌then◌}
use Rattle.abnf.proofs.Rules.{Free, Tidy, cut, cut2, cut_then, cut2_then}

pub cut_at : (c : ℕ) (p q : Rule) (s : List ℕ)
    → cut c p q s ≡ ltb (before c s) (length s) && (p (take (before c s) s) && q (drop (suc (before c s)) s))
unfolding cut before
cut_at c p q [] = refl
cut_at c p q (x ∷ s) =
    by_bool (eqb x c) (λ e. simp (e, lt-ltb 0 (length (x ∷ s)) (omega arith)))
    (λ e. simp (e, leb-suc-suc) (cut_at c (λ t. p (x ∷ t)) q s))

-- p c q, where no text of p has a c
pub then_at : (c : ℕ) (p q : Rule) → Free c p → (s : List ℕ)
    → (p then byte c then q) s ≡ ltb (before c s) (length s) && (p (take (before c s) s) && q (drop (suc (before c s)) s))
then_at c p q f s = cut_then c p q f s ∙ cut_at c p q s

cut2_next : (c : ℕ) (p q : Rule) (x y : ℕ) (s : List ℕ)
    → cut2 c p q (x ∷ y ∷ s) ≡ cond (eqb x c && eqb y c) (p [] && q s) (cut2 c (λ t. p (x ∷ t)) q (y ∷ s))
unfolding cut2
cut2_next c p q x y s = refl

cut2_at : (c : ℕ) (p q : Rule) (s : List ℕ)
    → cut2 c p q s ≡ ltb (before_pair c c s) (length s) && (p (take (before_pair c c s) s) && q (drop (suc (suc (before_pair c c s))) s))
unfolding before_pair
cut2_at c p q [] = unfold cut2 in refl
cut2_at c p q (x ∷ []) = unfold cut2 in refl
cut2_at c p q (x ∷ y ∷ s) =
    cut2_next c p q x y s
    ∙ by_bool (eqb x c && eqb y c) (λ e. simp (e, lt-ltb 0 (length (x ∷ y ∷ s)) (omega arith)))
    (λ e. simp (e, leb-suc-suc) (simp leb-suc-suc at (cut2_at c (λ t. p (x ∷ t)) q (y ∷ s))))

-- p c c q, where no text of p has two c in a row, or ends in c
pub then_pair_at : (c : ℕ) (p q : Rule) → Tidy c p → (s : List ℕ)
    → (p then (byte c then byte c) then q) s
    ≡ ltb (before_pair c c s) (length s) && (p (take (before_pair c c s) s) && q (drop (suc (suc (before_pair c c s))) s))
then_pair_at c p q r s = cut2_then c p q r s ∙ cut2_at c p q s

-- a text with a c in it is none of a rule whose texts have none
pub free_at : (c : ℕ) (p : Rule) → Free c p → (s : List ℕ) → before c s < length s → p s ≡ false
free_at c p f s h = ap p (sym (cut_first c s h)) ∙ f (take (before c s) s) (drop (suc (before c s)) s)

-- a separator that no text of q may follow is in no text that is cut
pub cut_bad : (c : ℕ) (p q : Rule) (t : List ℕ) → q t ≡ false → ((u : List ℕ) → q (u ++ c ∷ t) ≡ false) → (u : List ℕ)
    → cut c p q (u ++ c ∷ t) ≡ false
unfolding cut
cut_bad c p q t h f [] = rw (eq-eqb c c refl, h) (and-false (p []))
cut_bad c p q t h f (x ∷ u) =
    by_bool (eqb x c) (λ e. rw (e, f u) (and-false (p []))) (λ e. rw e (cut_bad c (λ v. p (x ∷ v)) q t h f u))
