-- Laws of sums, and of the first number that a test holds of. Assumes nothing.
use Prim.Native.Nat.{ℕ, zero, suc, ◌+◌, ◌≤◌, ◌<◌}
use mathlib.Core.Path.{◌≡◌, refl, sym, ap, ◌∙◌}
use mathlib.Core.Bool.{Bool, true, false, cond}
use native.Mathlib.Omega.{arith}
use lib.Dec.{eqb, ltb}
use borrow.Author.Tests.{eq-eqb, ne_eqb, eqb-true, eqb-false, ltb-true, ltb-false}
use Rattle.text.proofs.Bools.{by_bool}
use Rattle.streams.specs.Sums.{sum, first_from, first}

-- a number below i + 1 that is not i
pub below : (j i : ℕ) → j < i + 1 → eqb j i ≡ false → j < i
below j i h t = by_bool (ltb j i) (λ q. ltb-true j i q) (λ q. absurd (eqb-false j i t (let r = ltb-false j i q in omega arith)))

-- a number that is not 0
pub over_zero : (n : ℕ) → eqb n 0 ≡ false → 0 < n
over_zero n e = by_bool (ltb 0 n) (λ t. ltb-true 0 n t) (λ t. absurd (eqb-false n 0 e (let h = ltb-false 0 n t in omega arith)))

pub sum_same : (n : ℕ) (f g : ℕ → ℕ) → ((j : ℕ) → j < n → g j ≡ f j) → sum n g ≡ sum n f
unfolding sum
sum_same zero f g e = refl
sum_same (suc n) f g e = omega (arith, sum_same n f g (λ j h. e j (omega arith)), e n (omega arith))

-- one term is changed
pub sum_change : (n : ℕ) (f g : ℕ → ℕ) (i : ℕ) → i < n → ((j : ℕ) → j < n → (j ≡ i → ⊥) → g j ≡ f j) → sum n g + f i ≡ sum n f + g i
unfolding sum
sum_change zero f g i h e = absurd (omega arith)
sum_change (suc n) f g i h e =
    by_bool (eqb i n)
    (λ t.
    let k : i ≡ n = eqb-true i n t in
    rw k (omega (arith, sum_same n f g (λ j m. e j (omega arith) (λ x. omega arith)))))
    (λ t.
    let k = eqb-false i n t in
    let m : i < n = by_bool (ltb i n) (λ q. ltb-true i n q) (λ q. absurd (k (let r = ltb-false i n q in omega arith))) in
    omega (arith, sum_change n f g i m (λ j a x. e j (omega arith) x), e n (omega arith) (λ x. k (sym x))))

pub sum_zero : (n : ℕ) (f : ℕ → ℕ) → ((j : ℕ) → j < n → f j ≡ 0) → sum n f ≡ 0
unfolding sum
sum_zero zero f e = refl
sum_zero (suc n) f e = omega (arith, sum_zero n f (λ j h. e j (omega arith)), e n (omega arith))

-- all terms but one are 0
pub sum_one : (n : ℕ) (f : ℕ → ℕ) (i : ℕ) → i < n → ((j : ℕ) → j < n → (j ≡ i → ⊥) → f j ≡ 0) → sum n f ≡ f i
sum_one n f i h e =
    omega (arith, sum_change n f (λ j. 0) i h (λ j a x. sym (e j a x)), sum_zero n (λ j. 0) (λ j a. refl))

pub sum_most : (n : ℕ) (f : ℕ → ℕ) → ((j : ℕ) → j < n → f j ≤ 1) → sum n f ≤ n
unfolding sum
sum_most zero f e = omega arith
sum_most (suc n) f e = omega (arith, sum_most n f (λ j h. e j (omega arith)), e n (omega arith))

pub sum_all : (n : ℕ) (f : ℕ → ℕ) → ((j : ℕ) → j < n → f j ≡ 1) → sum n f ≡ n
unfolding sum
sum_all zero f e = refl
sum_all (suc n) f e = omega (arith, sum_all n f (λ j h. e j (omega arith)), e n (omega arith))

-- terms of at most 1, of which one is 0
pub sum_less : (n : ℕ) (f : ℕ → ℕ) (i : ℕ) → i < n → f i ≡ 0 → ((j : ℕ) → j < n → f j ≤ 1) → sum n f < n
sum_less n f i h z e =
    let k = sum_change n f (λ j. cond (eqb j i) 1 (f j)) i h (λ j a x. simp (ne_eqb j i x)) in
    let m = sum_most n (λ j. cond (eqb j i) 1 (f j)) (λ j a. by_bool (eqb j i) (λ t. simp t (omega arith)) (λ t. simp t (e j a))) in
    omega (arith, simp (eq-eqb i i refl) at k)

pub sum_term : (n : ℕ) (f : ℕ → ℕ) (i : ℕ) → i < n → f i ≤ sum n f
unfolding sum
sum_term zero f i h = absurd (omega arith)
sum_term (suc n) f i h =
    by_bool (eqb i n)
    (λ t. let k : i ≡ n = eqb-true i n t in rw k (omega arith))
    (λ t.
    let k = eqb-false i n t in
    let m : i < n = by_bool (ltb i n) (λ q. ltb-true i n q) (λ q. absurd (k (let r = ltb-false i n q in omega arith))) in
    omega (arith, sum_term n f i m))

module _ (p : ℕ → Bool) where
  -- what the first number tells
  pub record First (n i : ℕ) : Type 0 where
    pub most : i ≤ n
    pub holds : i < n → p i ≡ true
    pub none : (j : ℕ) → j < i → p j ≡ false

  from : (k i : ℕ) → ((j : ℕ) → j < i → p j ≡ false) → First (i + k) (first_from p i k)
  unfolding first_from
  from zero i e = record { most = omega arith; holds = λ h. absurd (omega arith); none = e }
  from (suc k) i e =
      by_bool (p i)
      (λ t. simp t (record { most = omega arith; holds = λ h. t; none = e }))
      (λ f.
      let m : i + suc k ≡ suc i + k = omega arith in
      simp f (rw m (from k (suc i) (λ j h.
      by_bool (eqb j i)
      (λ q. ap p (eqb-true j i q) ∙ f)
      (λ q. e j (let x = eqb-false j i q in by_bool (ltb j i) (λ y. ltb-true j i y) (λ y. absurd (x (let z = ltb-false j i y in omega arith)))))))))

  pub first_tells : (n : ℕ) → First n (first p n)
  first_tells n = let m : 0 + n ≡ n = omega arith in rw m at (from n 0 (λ j h. absurd (omega arith)))
