-- Laws of repetition, each by going through the text byte by byte: what *p goes on with after a byte, texts joined, and texts cut at a byte
-- that is a whole text of p. Assumes nothing.
use Prim.Native.Nat.{ℕ}
use mathlib.Core.Path.{◌≡◌, refl, sym, ap, ◌∙◌, fun_ext}
use mathlib.Core.Bool.{Bool, true, false, ◌&&◌, ◌||◌, or-false}
use mathlib.Core.List.{List, [], ◌∷◌, ◌++◌}
use lib.Dec.{leb}
use Rattle.text.proofs.Bools.{clash, both, and_left, and_right, or_elim, or_left, or_right}
use Rattle.abnf.specs.Rule.{Rule, nothing, range, ◌then◌, ◌then_many◌, many}
use Rattle.abnf.proofs.Rules.{or_pairs, or_nests, range_first, Free}

module _ (p : Rule) where
  -- r has no text
  pub many_none : (r : Rule) → ((t : List ℕ) → r t ≡ false) → (s : List ℕ) → (r then_many p) s ≡ false
  unfolding ◌then_many◌
  many_none r h [] = h []
  many_none r h (x ∷ s) = rw (h []) (many_none (λ t. r (x ∷ t)) (λ t. h (x ∷ t)) s)

  pub many_or : (a b : Rule) (s : List ℕ) → ((λ t. a t || b t) then_many p) s ≡ (a then_many p) s || (b then_many p) s
  unfolding ◌then_many◌
  many_or a b [] = refl
  many_or a b (x ∷ s) =
      rw (many_or (λ t. a (x ∷ t)) (λ t. b (x ∷ t)) s)
      (or_pairs (a []) (b []) (((λ t. p (x ∷ t)) then_many p) s) (((λ t. a (x ∷ t)) then_many p) s) (((λ t. b (x ∷ t)) then_many p) s))

  pub many_and : (k : Bool) (a : Rule) (s : List ℕ) → ((λ t. k && a t) then_many p) s ≡ k && (a then_many p) s
  many_and true a s = refl
  many_and false a s = many_none (λ t. false) (λ t. refl) s

  -- what a text of *p goes on with after its first byte
  pub many_cons : (x : ℕ) (s : List ℕ) → many p (x ∷ s) ≡ ((λ t. p (x ∷ t)) then_many p) s
  unfolding ◌then_many◌ nothing
  many_cons x s = rw (many_none (λ t. nothing (x ∷ t)) (λ t. refl) s) (or-false (((λ t. p (x ∷ t)) then_many p) s))

  pub then_many_lem : (q r : Rule) (s : List ℕ) → ((q then r) then_many p) s ≡ (q then (r then_many p)) s
  unfolding ◌then◌ ◌then_many◌
  then_many_lem q r [] = refl
  then_many_lem q r (x ∷ s) =
      rw (many_or (λ t. q [] && r (x ∷ t)) ((λ t. q (x ∷ t)) then r) s)
      (rw (many_and (q []) (λ t. r (x ∷ t)) s)
      (rw (then_many_lem (λ t. q (x ∷ t)) r s)
      (or_nests (q []) (r []) (((λ t. p (x ∷ t)) then_many p) s) (((λ t. r (x ∷ t)) then_many p) s)
      (((λ t. q (x ∷ t)) then (r then_many p)) s))))

  pub range_many : (a b x : ℕ) (s : List ℕ) → (range a b then_many p) (x ∷ s) ≡ (leb a x && leb x b) && many p s
  unfolding ◌then_many◌ range
  range_many a b x s =
      ap (λ (r : Rule). (r then_many p) s) (fun_ext (range_first a b x)) ∙ many_and (leb a x && leb x b) nothing s

  -- a text, and one of *p behind it
  pub many_append : (r : Rule) (x y : List ℕ) → (r then_many p) x ≡ true → many p y ≡ true → (r then_many p) (x ++ y) ≡ true
  unfolding ◌then_many◌
  many_append r [] [] h k = h
  many_append r [] (b ∷ y) h k = or_left (((λ t. r (b ∷ t)) then_many p) y) (both h (sym (many_cons b y) ∙ k))
  many_append r (a ∷ x) y h k =
      or_elim (r [] && ((λ t. p (a ∷ t)) then_many p) x) (((λ t. r (a ∷ t)) then_many p) x)
      (λ e.
      or_left (((λ t. r (a ∷ t)) then_many p) (x ++ y))
      (both (and_left (r []) (((λ t. p (a ∷ t)) then_many p) x) e)
      (many_append (λ t. p (a ∷ t)) x y (and_right (r []) (((λ t. p (a ∷ t)) then_many p) x) e) k)))
      (λ e. or_right (r [] && ((λ t. p (a ∷ t)) then_many p) (x ++ y)) (many_append (λ t. r (a ∷ t)) x y e k))
      h

-- c is a whole text of p, and stands in no longer one
pub record Alone (c : ℕ) (p : Rule) : Type 0 where
  pub whole : (t : List ℕ) → p (c ∷ t) ≡ nothing t
  pub behind : (a : ℕ) → Free c (λ t. p (a ∷ t))

-- a text that is cut at c: both sides are texts
pub many_cut : (c : ℕ) (p r : Rule) → Alone c p → Free c r → (x y : List ℕ) → (r then_many p) (x ++ c ∷ y) ≡ true
    → ((r then_many p) x ≡ true) × (many p y ≡ true)
unfolding ◌then_many◌
many_cut c p r l f [] y h =
    or_elim (r [] && ((λ t. p (c ∷ t)) then_many p) y) (((λ t. r (c ∷ t)) then_many p) y)
    (λ e. (
      and_left (r []) (((λ t. p (c ∷ t)) then_many p) y) e,
      ap (λ (q : Rule). (q then_many p) y) (sym (fun_ext l.whole))
          ∙ and_right (r []) (((λ t. p (c ∷ t)) then_many p) y) e,
    ))
    (λ e. clash (cc (many_none p (λ t. r (c ∷ t)) (f []) y)))
    h
many_cut c p r l f (a ∷ x) y h =
    or_elim (r [] && ((λ t. p (a ∷ t)) then_many p) (x ++ c ∷ y)) (((λ t. r (a ∷ t)) then_many p) (x ++ c ∷ y))
    (λ e.
    let i = many_cut c p (λ t. p (a ∷ t)) l (l.behind a) x y
    (and_right (r []) (((λ t. p (a ∷ t)) then_many p) (x ++ c ∷ y)) e) in (
      or_left (((λ t. r (a ∷ t)) then_many p) x)
          (both (and_left (r []) (((λ t. p (a ∷ t)) then_many p) (x ++ c ∷ y)) e) i.0),
      i.1,
    ))
    (λ e.
    let i = many_cut c p (λ t. r (a ∷ t)) l (λ s. f (a ∷ s)) x y e in
    (or_right (r [] && ((λ t. p (a ∷ t)) then_many p) x) i.0, i.1))
    h
