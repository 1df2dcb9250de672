-- The entries that have streams are as many as the clocks that have streams: this follows from the counts alone. Assumes nothing.
use Prim.Native.Nat.{ℕ, zero, suc, ◌+◌, ◌≤◌, ◌<◌}
use mathlib.Core.Path.{◌≡◌, sym, ◌∙◌}
use mathlib.Core.List.{[], ◌∷◌}
use mathlib.Core.Bool.{Bool, true, false, cond, not, ◌&&◌}
use native.Mathlib.Omega.{arith}
use lib.Dec.{eqb, ltb}
use borrow.Author.Tests.{ne_eqb, eqb-true, lt-ltb, ltb-true, ltb-false}
use Rattle.text.proofs.Bools.{by_bool, clash}
use Rattle.streams.specs.Rule.{Value, Rule, Lawful}
use Rattle.streams.specs.Streams.{Streams, bit, number_of, of_clock, clocks_in}
use Rattle.streams.specs.Sums.{sum}
use Rattle.streams.specs.Book.{Book, is_free, tallied}
use Rattle.streams.specs.Private.Entries.{live}
use Rattle.streams.proofs.Lists.{clock_alike, second}
use Rattle.streams.proofs.Sums.{over_zero, sum_same, sum_change, sum_zero, sum_term}

-- a sum over 0 has a term over 0
record Term (n : ℕ) (f : ℕ → ℕ) : Type 0 where
  i : ℕ
  below : i < n
  over : 0 < f i

sum_some : (n : ℕ) (f : ℕ → ℕ) → 0 < sum n f → Term n f
unfolding sum
sum_some zero f h = absurd (omega arith)
sum_some (suc n) f h =
    by_bool (ltb 0 (f n))
    (λ t. record { i = n; below = omega arith; over = ltb-true 0 (f n) t })
    (λ t.
    let z = ltb-false 0 (f n) t in
    let r = sum_some n f (omega arith) in
    record { i = r.i; below = omega (arith, r.below); over = r.over })

data Each (P : Value → Type 0) : Streams → Type 0 where
  none : Each P []
  one : {s : Value} {l : Streams} → P s → Each P l → Each P (s ∷ l)

module _ (R : Rule) (G : Lawful R) (b : Book)
    (apart : (i j : ℕ) → i < b.used → j < b.used → is_free b i ≡ false → is_free b j ≡ false
    → R.same (b.value i) (b.value j) ≡ true → i ≡ j) where
  -- an entry with streams is that of s's clock
  record Named (s : Value) : Type 0 where
    i : ℕ
    below : i < b.used
    live : is_free b i ≡ false
    same : R.same (b.value i) s ≡ true

  -- 1 for an entry with streams whose clock is in the list
  abbrev has : Streams → ℕ → ℕ
  has l i = bit (not (is_free b i) && ltb 0 (of_clock R (b.value i) l))

  abbrev Fine : Value → Type 0
  Fine s = R.accepted s ≡ true → Named s

  -- one stream more
  has_other : (s : Value) (l : Streams) (j : ℕ) → (is_free b j ≡ false → R.same (b.value j) s ≡ false) → has (s ∷ l) j ≡ has l j
  unfolding number_of
  has_other s l j e =
      by_bool (is_free b j)
      (λ f. simp f)
      (λ f. let z : 0 + of_clock R (b.value j) l ≡ of_clock R (b.value j) l = omega arith in simp (f, e f, z))

  has_this : (s : Value) (l : Streams) (j : ℕ) → is_free b j ≡ false → R.same (b.value j) s ≡ true
      → (has (s ∷ l) j ≡ 1) × (has l j + bit (eqb (of_clock R s l) 0) ≡ 1)
  unfolding number_of
  has_this s l j f e =
      let n : of_clock R (b.value j) l ≡ of_clock R s l = clock_alike R G (b.value j) s e l in
      let o : ltb 0 (1 + of_clock R s l) ≡ true = lt-ltb 0 (1 + of_clock R s l) (omega arith) in (
        simp (f, e, n, o),
        by_bool (eqb (of_clock R s l) 0)
            (λ z. let y : of_clock R s l ≡ 0 = eqb-true (of_clock R s l) 0 z in simp (f, n, y))
            (λ z.
            let t : ltb 0 (of_clock R s l) ≡ true = lt-ltb 0 (of_clock R s l) (over_zero (of_clock R s l) z) in
            simp (f, n, t, z)),
      )

  classes : (l : Streams) → Each Fine l → sum b.used (has l) ≡ clocks_in R l
  unfolding clocks_in number_of
  classes [] none = sum_zero b.used (has []) (λ j h. nothing j)
    where
      nothing : (j : ℕ) → has [] j ≡ 0
      nothing j = by_bool (is_free b j) (λ f. simp f) (λ f. simp f)
  classes (s ∷ l) (one p q) =
      by_bool (R.accepted s)
      (λ a.
      let w = p a in
      let t = has_this s l w.i w.live w.same in
      let c = sum_change b.used (has l) (has (s ∷ l)) w.i w.below (λ j h x. has_other s l j (λ f.
      by_bool (R.same (b.value j) s)
      (λ y. absurd (x (apart j w.i h w.below f w.live (G.on (b.value j) s (b.value w.i) y (G.back (b.value w.i) s w.same)))))
      (λ y. y))) in
      simp a (omega (arith, c, t.0, t.1, classes l q)))
      (λ a.
      let c = sum_same b.used (has l) (has (s ∷ l)) (λ j h. has_other s l j (λ f.
      by_bool (R.same (b.value j) s) (λ y. clash (cc (a, second R G (b.value j) s y))) (λ y. y))) in
      simp a (omega (arith, c, classes l q)))

  -- where the counts of the entries are those of the list
  module _ (l : Streams) (tallies : (v : Value) → tallied b (R.same v) ≡ of_clock R v l)
      (accepted : (i : ℕ) → i < b.used → is_free b i ≡ false → R.accepted (b.value i) ≡ true) where
    named : (s : Value) → 0 < of_clock R s l → Named s
    named s h =
        let r = sum_some b.used (λ i. cond (R.same s (b.value i)) (b.streams i) 0) (omega (arith, tallies s)) in
        by_bool (R.same s (b.value r.i))
        (λ t.
        let k : 0 < b.streams r.i = simp t at r.over in
        record { i = r.i; below = r.below; live = ne_eqb (b.streams r.i) 0 (λ e. omega arith); same = G.back s (b.value r.i) t })
        (λ t. let k : 0 < 0 = simp t at r.over in absurd (omega arith))

    each_named : (l' : Streams) → ((p : Value → Bool) → number_of p l' ≤ number_of p l) → Each Fine l'
    unfolding number_of
    each_named [] h = none
    each_named (s ∷ l') h =
        one (λ a. named s (let k = h (R.same s) in omega (arith, simp (G.to_self s a) at k)))
        (each_named l' (λ p. let k = h p in omega arith))

    -- each entry with streams has its clock in the list
    live_has : (i : ℕ) → i < b.used → has l i ≡ bit (not (is_free b i))
    live_has i h =
        by_bool (is_free b i)
        (λ f. simp f)
        (λ f.
        let v = b.value i in
        let t : R.same v v ≡ true = G.to_self v (accepted i h f) in
        let k : b.streams i ≤ of_clock R v l =
        (let x = sum_term b.used (λ j. cond (R.same v (b.value j)) (b.streams j) 0) i h in omega (arith, tallies v, simp t at x)) in
        let s : 0 < b.streams i = over_zero (b.streams i) f in
        simp (f, lt-ltb 0 (of_clock R v l) (omega arith)))

    pub live_clocks : live b ≡ clocks_in R l
    live_clocks =
        sym (sum_same b.used (λ i. bit (not (is_free b i))) (has l) live_has)
        ∙ classes l (each_named l (λ p. omega arith))
