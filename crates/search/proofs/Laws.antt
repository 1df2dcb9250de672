-- One law for each way out of this crate's functions, and the invariants of their loops. Assumes nothing.
use Rattle.std.specs.Prelude.{Option, Some, None}
use Rattle.std.specs.Option.{unwrap_or}
use Rattle.std.specs.List.{All}
use Rattle.search.specs.Private.Places.{IsPairAt, IsFirstPair, IsLast}
use Prim.Native.Nat.{ℕ, zero, suc, ◌+◌, ◌-◌, ◌≤◌, ◌<◌, min}
use mathlib.Core.Path.{◌≡◌, refl, sym, ap, ◌∙◌}
use mathlib.Core.List.{List, [], ◌∷◌}
use mathlib.Core.Bool.{Bool, true, false}
use native.Mathlib.Omega.{arith}
use lib.Dec.{eqb}
use lib.ListN.{length, get_or, drop, length-drop}
use lib.Seq.{drop-drop, get_or-drop}
use borrow.Author.Tests.{eq-eqb, ne_eqb, eqb-true, eqb-false}
use Rattle.text.specs.Find.{before, before_pair, through_last}
use Rattle.text.proofs.Bools.{by_bool, or_elim}
use Rattle.text.proofs.Left.{rest, rest_is, next_byte, none_left, Passed, passed_none, passed_all, passed_more, any_of, passed_run}
use Rattle.text.proofs.Cuts.{before_here, before_later, before_end, before_drop, before_most}
use Rattle.search.specs.Private.Passing.{Passes, Nears}

-- a byte that is not b is passed
pub find_next : (b : ℕ) {s : List ℕ} {i : ℕ} → Passed (before b) s i → i < length s → (get_or s i 0 ≡ b → ⊥) → Passed (before b) s (i + 1)
find_next b {s} {i} p h e = passed_more p 1 (omega arith) (before_later b s i h e)

pub passes_passed : (b : ℕ) (s : List ℕ) (i : ℕ) → Passes b s i → Passed (before b) s i
passes_passed b s i (h, e) = record { within = h; so_far = e }

-- `find_in_eight`: none of the first k bytes is b
module _ (b : ℕ) (s : List ℕ) (i k : ℕ) (e : before b (drop i s) ≡ k + before b (drop (i + k) s)) (h : i + 8 ≤ length s) (l : k < 8) where
  pub sought_here : get_or s (i + k) 0 ≡ b → i + k ≡ i + min (before b (drop i s)) 8
  sought_here f = omega (arith, e, before_here b s (i + k) (omega arith) f)

  pub sought_next : (get_or s (i + k) 0 ≡ b → ⊥) → before b (drop i s) ≡ k + 1 + before b (drop (i + (k + 1)) s)
  sought_next f =
      let a : i + k + 1 ≡ i + (k + 1) = omega arith in
      omega (arith, e, rw a at (before_later b s (i + k) (omega arith) f))

-- `find_from`: none of the bytes from `from` to i is b
module _ (b : ℕ) (s : List ℕ) (from i : ℕ) (e : from + before b (drop from s) ≡ i + before b (drop i s)) where
  pub from_here : i < length s → get_or s i 0 ≡ b → i ≡ from + before b (drop from s)
  from_here h f = omega (arith, e, before_here b s i h f)

  pub from_next : i < length s → (get_or s i 0 ≡ b → ⊥) → from + before b (drop from s) ≡ i + 1 + before b (drop (i + 1) s)
  from_next h f = omega (arith, e, before_later b s i h f)

  pub from_end : length s ≤ i → i ≤ length s → length s ≡ from + before b (drop from s)
  from_end h l = omega (arith, e, before_end b s i h)

-- `pass_by_eights`
module _ (b : ℕ) {s : List ℕ} {i : ℕ} (p : Passed (before b) s i) (h : 8 ≤ length s - i) where
  pub eight_asks : i + 8 ≤ length s
  eight_asks = omega (arith, p.within)

  module _ (next : ℕ) (e : next ≡ i + min (before b (drop i s)) 8) where
    eight_passed : Passed (before b) s next
    eight_passed =
        let n : ℕ = min (before b (drop i s)) 8 in
        rw (← e) at (passed_more p n (omega (arith, p.within)) (before_drop b (drop i s) n (omega arith) ∙ ap (λ (t : List ℕ). n + before b t) (drop-drop n i s)))

    pub eight_here : next < i + 8 → Passes b s next
    eight_here l = (eight_passed.within, eight_passed.so_far)

    pub eight_past : i + 8 ≤ next → Passed (before b) s next
    eight_past l = eight_passed

    pub eight_less : i + 8 ≤ next → length s - next < length s - i
    eight_less l = omega (arith, eight_passed.within)

pub passed_passes : (b : ℕ) {s : List ℕ} {i : ℕ} → Passed (before b) s i → length s - i < 8 → Passes b s i
passed_passes b p h = (p.within, p.so_far)

-- `pass_eights_at_once`
abbrev is : ℕ → ℕ → Bool
is b x = eqb x b

pub none_eight : (b : ℕ) {s : List ℕ} {i : ℕ} → Passed (before b) s i → 8 ≤ length s → i ≤ length s - 8 → any_of (is b) s i 7 ≡ false → Passed (before b) s (i + 8)
none_eight b {s} p m h e =
    passed_run (is b) (λ k q l f. find_next b q l (eqb-false (get_or s k 0) b f)) p 7 (omega arith) e

some_run : (b : ℕ) (s : List ℕ) (i n : ℕ) → i + n < length s → any_of (is b) s i n ≡ true → before b (drop i s) < suc n
some_run b s i zero h e = omega (arith, before_here b s i (omega arith) (eqb-true (get_or s i 0) b e))
some_run b s i (suc n) h e =
    or_elim (any_of (is b) s i n) (eqb (get_or s (i + suc n) 0) b)
    (λ f. omega (arith, some_run b s i n (omega arith) f))
    (λ f.
    let g : get_or (drop i s) (suc n) 0 ≡ b = get_or-drop i s (suc n) 0 ∙ eqb-true (get_or s (i + suc n) 0) b f in
    omega (arith, before_most b (drop i s) (suc n) (omega (arith, length-drop i s)) g))
    e

module _ (b : ℕ) (s : List ℕ) where
  pub nears_short : length s < 8 → Nears b s 0
  nears_short h = ((omega arith, omega arith), λ k. absurd (omega arith))

  module _ {i : ℕ} (p : Passed (before b) s i) where
    pub nears_here : 8 ≤ length s → i ≤ length s - 8 → any_of (is b) s i 7 ≡ true → Nears b s i
    nears_here m h e = ((p.within, p.so_far), λ k. some_run b s i 7 (omega arith) e)

    pub nears_end : length s - 8 < i → Nears b s i
    nears_end h = ((p.within, p.so_far), λ k. absurd (omega arith))

-- `find_far`
module _ (b : ℕ) (s : List ℕ) (i : ℕ) (p : Nears b s i) where
  pub far_passed : Passed (before b) s i
  far_passed = passes_passed b s i p.0

  module _ (h : 8 ≤ length s - i) where
    pub far_asks : i + 8 ≤ length s
    far_asks = eight_asks b far_passed h

    pub far_here : (r : ℕ) → r ≡ i + min (before b (drop i s)) 8 → r ≡ before b s
    far_here r e = omega (arith, e, p.1 h, far_passed.so_far)

-- `find_pair`
module _ (a b : ℕ) where
  -- a text that does not begin with the mark
  pair_later : (x y : ℕ) (s : List ℕ) (n : ℕ) → (IsPairAt a b (x ∷ y ∷ s) 0 → ⊥) → before_pair a b (y ∷ s) ≡ n → before_pair a b (x ∷ y ∷ s) ≡ suc n
  unfolding before_pair
  pair_later x y s n not e =
      by_bool (eqb x a)
      (λ f. by_bool (eqb y b) (λ g. absurd (not (eqb-true x a f, eqb-true y b g))) (λ g. simp (f, g) (ap suc e)))
      (λ f. simp f (ap suc e))

  behind_first : (x : ℕ) (s : List ℕ) (k : ℕ) → IsPairAt a b s k → IsPairAt a b (x ∷ s) (suc k)
  behind_first x s k (p, q) = let e : suc k + 1 ≡ suc (k + 1) = omega arith in (p, rw e q)

  pair_none : (s : List ℕ) → ((k : ℕ) → k + 1 < length s → IsPairAt a b s k → ⊥) → before_pair a b s ≡ length s
  unfolding before_pair
  pair_none [] n = refl
  pair_none (x ∷ []) n = refl
  pair_none (x ∷ y ∷ s) n =
      pair_later x y s (length (y ∷ s)) (n 0 (omega arith))
      (pair_none (y ∷ s) (λ k h p. n (suc k) (omega arith) (behind_first x (y ∷ s) k p)))

  pair_some : (s : List ℕ) (i : ℕ) → i + 1 < length s → IsPairAt a b s i → ((k : ℕ) → k < i → IsPairAt a b s k → ⊥) → before_pair a b s ≡ i
  unfolding before_pair
  pair_some [] i h p n = absurd (omega arith)
  pair_some (x ∷ []) i h p n = absurd (omega arith)
  pair_some (x ∷ y ∷ s) zero h (p, q) n = simp (eq-eqb x a p, eq-eqb y b q)
  pair_some (x ∷ y ∷ s) (suc i) h (p, q) n =
      let e : suc i + 1 ≡ suc (i + 1) = omega arith in
      pair_later x y s i (n 0 (omega arith))
      (pair_some (y ∷ s) i (omega arith) (p, rw e at q) (λ k l r. n (suc k) (omega arith) (behind_first x (y ∷ s) k r)))

  pub first_pair_is : (s : List ℕ) (r : Option ℕ) → IsFirstPair a b s r → (n : ℕ) → n ≡ unwrap_or r (length s) → n ≡ before_pair a b s
  first_pair_is s None f n e = e ∙ sym (pair_none s f)
  first_pair_is s (Some i) (h, p, f) n e = e ∙ sym (pair_some s i h p f)

-- `through_last`
-- a b that stands in what is left settles the whole
last_left : (b k m : ℕ) (s : List ℕ) → through_last b (drop k s) ≡ suc m → through_last b s ≡ k + suc m
unfolding through_last
last_left b zero m s e = omega (arith, e)
last_left b (suc k) m [] e = omega (arith, e)
last_left b (suc k) m (x ∷ s) e =
    let r : through_last b s ≡ suc (k + m) = last_left b k m s e ∙ omega arith in
    rw r (omega arith)

last_none : (b : ℕ) (s : List ℕ) → All (λ x. x ≡ b → ⊥) s → through_last b s ≡ 0
unfolding through_last
last_none b [] n = refl
last_none b (x ∷ s) n = simp (last_none b s (λ k d h. n (suc k) d (omega arith)), ne_eqb x b (n 0 x (omega arith)))

pub last_is_none : (b : ℕ) (s : List ℕ) → All (λ x. x ≡ b → ⊥) s → 0 ≡ through_last b s
last_is_none b s n = sym (last_none b s n)

pub last_is : (b : ℕ) (s : List ℕ) (i : ℕ) → IsLast b s (Some i) → i + 1 ≡ through_last b s
unfolding through_last
last_is b s i (h, here, after) =
    let behind : through_last b (drop (i + 1) s) ≡ 0 =
    last_none b (drop (i + 1) s)
    (λ k d l. rw get_or-drop (after (i + 1 + k) d (omega arith) (omega (arith, length-drop (i + 1) s)))) in
    let here_b : get_or s i 0 ≡ b = here 0 in
    sym (last_left b i 0 s (ap (through_last b) (next_byte s i h) ∙ simp (behind, eq-eqb (get_or s i 0) b here_b)))

pub ruleset eight_laws = (sought_here, sought_next)

pub ruleset pass_laws = (passed_none, eight_asks, eight_here, eight_past, eight_less, passed_passes)

pub ruleset from_laws = (from_here, from_next, from_end)

pub ruleset near_laws = (passed_none, none_eight, nears_short, nears_here, nears_end)

pub ruleset far_laws = (far_asks, far_here)

pub ruleset last_laws = (last_is, last_is_none)
