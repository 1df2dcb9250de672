-- What a written number is: digits and nothing else, read back as the number, and no longer than what was read. Assumes nothing.
use Rattle.std.specs.Prelude.{Ok, Err}
use Prim.Native.Nat.{ℕ, zero, suc, ◌+◌, ◌-◌, ◌*◌, ◌^◌, ◌/◌, ◌%◌, ◌≤◌, ◌<◌}
use mathlib.Core.Path.{◌≡◌, refl, sym, ap, ◌∙◌}
use mathlib.Core.List.{List, [], ◌∷◌, ◌++◌}
use mathlib.Core.Bool.{true, false, cond}
use native.Mathlib.Nat.{pow-suc, pow-succ', mul-le-mul_right, mul_assoc}
use native.Mathlib.Omega.{arith}
use lib.Dec.{leb, eqb, ltb}
use lib.ListN.{length, length-append}
use borrow.Author.Tests.{ne_eqb, eqb-false, leb-true, leb-false, le-leb, lt-ltb, le-ltb, ltb-true, ltb-false}
use Rattle.text.specs.Find.{through_last}
use Rattle.text.proofs.Ascii.{ascii, ascii_cons}
use Rattle.text.proofs.Bools.{by_bool, clash, and_left, and_right}
use Rattle.number.specs.declared.Reason.TheVariants.{Digit}
use Rattle.number.specs.Decimal.{is_digit, all_digits, value_from, after_plus, digits_of, number_of, digits_in, decimal}
use Rattle.number.proofs.Laws.{inside, number_le}

digit_range : (b : ℕ) → is_digit b ≡ true → (48 ≤ b) × (b ≤ 57)
digit_range b h = (leb-true 48 b (and_left (leb 48 b) (leb b 57) h), leb-true b 57 (and_right (leb 48 b) (leb b 57) h))

-- digits joined
value_append : (v : ℕ) (s t : List ℕ) → value_from v (s ++ t) ≡ value_from (value_from v s) t
unfolding value_from
value_append v [] t = refl
value_append v (b ∷ s) t = value_append (v * 10 + (b - 48)) s t

digits_append : (s t : List ℕ) → all_digits s ≡ true → all_digits (s ++ t) ≡ all_digits t
unfolding all_digits
digits_append [] t h = refl
digits_append (b ∷ s) t h =
    simp (and_left (is_digit b) (all_digits s) h) (digits_append s t (and_right (is_digit b) (all_digits s) h))

-- s are the digits of n
pub record Digits (s : List ℕ) (n : ℕ) : Type 0 where
  pub some : 0 < length s
  pub all : all_digits s ≡ true
  pub value : value_from 0 s ≡ n

one_digit : (n : ℕ) → n < 10 → Digits ((48 + n % 10) ∷ []) n
unfolding all_digits value_from
one_digit n h =
    record {
      some = omega arith;
      all = simp (inside 48 57 (48 + n % 10) (omega arith) (omega arith));
      value = omega arith;
    }

more_digits : (s : List ℕ) (n : ℕ) → Digits s (n / 10) → Digits (s ++ (48 + n % 10) ∷ []) n
unfolding all_digits value_from
more_digits s n d =
    record {
      some = omega (arith, length-append s ((48 + n % 10) ∷ []));
      all = digits_append s ((48 + n % 10) ∷ []) d.all ∙ simp (inside 48 57 (48 + n % 10) (omega arith) (omega arith));
      value = value_append 0 s ((48 + n % 10) ∷ []) ∙ rw d.value (omega arith);
    }

digits_in_lem : (k n : ℕ) → n < 10 ^ suc k → Digits (digits_in (suc k) n) n
unfolding digits_in
digits_in_lem zero n h =
    by_bool (ltb n 10) (λ e. simp e (one_digit n (ltb-true n 10 e))) (λ e. absurd (omega (arith, ltb-false n 10 e)))
digits_in_lem (suc k) n h =
    by_bool (ltb n 10) (λ e. simp e (one_digit n (ltb-true n 10 e)))
    (λ e. simp e (more_digits (digits_in (suc k) (n / 10)) n (digits_in_lem k (n / 10) (omega (arith, rw pow-suc at h)))))

pub decimal_digits : (n : ℕ) → n < 2 ^ 64 → Digits (decimal n) n
unfolding decimal
decimal_digits n h = digits_in_lem 19 n (omega arith)

-- digits read as their number
pub no_plus : (s : List ℕ) → all_digits s ≡ true → after_plus s ≡ s
unfolding all_digits
no_plus [] h = refl
no_plus (b ∷ s) h =
    let r = digit_range b (and_left (is_digit b) (all_digits s) h) in
    simp (ne_eqb b 43 (λ e. omega arith))

pub number_back_lem : (limit n : ℕ) → n ≤ limit → n < 2 ^ 64 → Ok n ≡ number_of limit (decimal n)
unfolding number_of digits_of
number_back_lem limit n h w =
    let d = decimal_digits n w in
    simp (no_plus (decimal n) d.all, ne_eqb (length (decimal n)) 0 (λ e. omega (arith, d.some)), d.all, d.value, le-leb n limit h)

-- a byte that is no digit does not stand among digits, and what it stands in is no number
digits_free : (b : ℕ) (s : List ℕ) → is_digit b ≡ false → all_digits s ≡ true → through_last b s ≡ 0
unfolding all_digits through_last
digits_free b [] q h = refl
digits_free b (x ∷ s) q h =
    let d = and_left (is_digit x) (all_digits s) h in
    simp (digits_free b s q (and_right (is_digit x) (all_digits s) h), ne_eqb x b (λ e. clash (cc (sym d ∙ ap is_digit e ∙ q))))

pub decimal_free : (b n : ℕ) → is_digit b ≡ false → n < 2 ^ 64 → through_last b (decimal n) ≡ 0
decimal_free b n q w = digits_free b (decimal n) q (decimal_digits n w).all

not_all : (b : ℕ) (x y : List ℕ) → is_digit b ≡ false → all_digits (x ++ b ∷ y) ≡ false
unfolding all_digits
not_all b [] y h = simp h
not_all b (a ∷ x) y h = by_bool (is_digit a) (λ e. simp e (not_all b x y h)) (λ e. simp e)

digits_not : (limit b : ℕ) (x y : List ℕ) → is_digit b ≡ false → Err Digit ≡ digits_of limit (x ++ b ∷ y)
unfolding digits_of
digits_not limit b x y h =
    simp (not_all b x y h, ne_eqb (length (x ++ b ∷ y)) 0 (λ e. omega (arith, length-append x (b ∷ y))))

pub number_not : (limit b : ℕ) (x y : List ℕ) → is_digit b ≡ false → (b ≡ 43 → ⊥) → Err Digit ≡ number_of limit (x ++ b ∷ y)
unfolding number_of
number_not limit b [] y h p = simp (ne_eqb b 43 p) (digits_not limit b [] y h)
number_not limit b (a ∷ x) y h p =
    by_bool (eqb a 43) (λ e. simp e (digits_not limit b x y h)) (λ e. simp e (digits_not limit b (a ∷ x) y h))

digits_ascii : (s : List ℕ) → all_digits s ≡ true → ascii s ≡ true
unfolding all_digits
digits_ascii [] h = refl
digits_ascii (b ∷ s) h =
    let r = digit_range b (and_left (is_digit b) (all_digits s) h) in
    ascii_cons b s (omega arith) (digits_ascii s (and_right (is_digit b) (all_digits s) h))

pub decimal_ascii : (n : ℕ) → n < 2 ^ 64 → ascii (decimal n) ≡ true
decimal_ascii n w = digits_ascii (decimal n) (decimal_digits n w).all

-- a number is written no longer than it was read
value_bound : (v : ℕ) (s : List ℕ) → all_digits s ≡ true → value_from v s < suc v * 10 ^ length s
unfolding all_digits value_from
value_bound v [] h = omega arith
value_bound v (b ∷ s) h =
    let r = digit_range b (and_left (is_digit b) (all_digits s) h) in
    let w = v * 10 + (b - 48) in
    let a : suc w * 10 ^ length s ≤ suc v * 10 * 10 ^ length s = mul-le-mul_right (10 ^ length s) (omega arith) in
    rw (pow-succ' 10 (length s), ← mul_assoc) (omega (arith, value_bound w s (and_right (is_digit b) (all_digits s) h)))

digits_step : (k n : ℕ) → digits_in (suc k) n ≡ cond (ltb n 10) [] (digits_in k (n / 10)) ++ (48 + n % 10) ∷ []
unfolding digits_in
digits_step k n = refl

-- one more digit allowed changes nothing where there were enough
digits_enough : (k n : ℕ) → n < 10 ^ suc k → digits_in (suc k) n ≡ digits_in (suc (suc k)) n
unfolding digits_in
digits_enough zero n h =
    by_bool (ltb n 10) (λ e. simp e) (λ e. absurd (omega (arith, ltb-false n 10 e)))
digits_enough (suc k) n h =
    ap (λ (s : List ℕ). cond (ltb n 10) [] s ++ (48 + n % 10) ∷ []) (digits_enough k (n / 10) (omega (arith, rw pow-suc at h)))

-- one digit, or those of n / 10 and then the last
pub decimal_one : (n : ℕ) → n < 10 → decimal n ≡ (48 + n) ∷ []
unfolding decimal
decimal_one n h = let e : n % 10 ≡ n = omega arith in digits_step 19 n ∙ simp (lt-ltb n 10 h, e)

pub decimal_more : (n : ℕ) → 10 ≤ n → n < 2 ^ 64 → decimal n ≡ decimal (n / 10) ++ (48 + n % 10) ∷ []
unfolding decimal
decimal_more n h w =
    digits_step 19 n
    ∙ simp (le-ltb n 10 h) (ap (λ (s : List ℕ). s ++ (48 + n % 10) ∷ []) (digits_enough 18 (n / 10) (omega arith)))

length_in : (k m n : ℕ) → m ≤ k → n < 10 ^ suc m → length (digits_in (suc k) n) ≤ suc m
length_in k zero n l h = rw (digits_step k n, lt-ltb n 10 (omega arith)) (omega arith)
length_in zero (suc m) n l h = absurd (omega arith)
length_in (suc k) (suc m) n l h =
    rw (digits_step (suc k) n)
    (by_bool (ltb n 10) (λ e. rw e (omega arith))
    (λ e.
    let r = length_in k m (n / 10) (omega arith) (omega (arith, rw pow-suc at h)) in
    rw (e, length-append) (omega arith)))

-- a number below ten to the power of m + 1 has at most m + 1 digits
pub decimal_length : (m n : ℕ) → m ≤ 19 → n < 10 ^ suc m → length (decimal n) ≤ suc m
unfolding decimal
decimal_length m n l h = length_in 19 m n l h

-- digits of the value n, leading zeros among them
digits_short : (s : List ℕ) (n : ℕ) → n < 2 ^ 64 → Digits s n → length (decimal n) ≤ length s
digits_short s n w d = go (length s) d.some (rw d.value at (value_bound 0 s d.all))
  where
    go : (k : ℕ) → 0 < k → n < 1 * 10 ^ k → length (decimal n) ≤ k
    go zero p h = absurd (omega arith)
    go (suc m) p h =
        by_bool (leb m 19) (λ e. decimal_length m n (leb-true m 19 e) (omega arith))
        (λ e. omega (arith, leb-false m 19 e, decimal_length 19 n (omega arith) (omega arith)))

plus_short : (s : List ℕ) → length (after_plus s) ≤ length s
plus_short [] = omega arith
plus_short (b ∷ s) = by_bool (eqb b 43) (λ e. simp e (omega arith)) (λ e. simp e (omega arith))

-- what a number that was read tells of its text
number_digits : (limit : ℕ) (s : List ℕ) (n : ℕ) → Ok n ≡ number_of limit s → Digits (after_plus s) n
unfolding number_of digits_of
number_digits limit s n h =
    let d = after_plus s in
    by_bool (eqb (length d) 0) (λ e. clash (cc (simp e at h)))
    (λ e. by_bool (all_digits d)
    (λ f. by_bool (leb (value_from 0 d) limit)
    (λ g.
    let k : length d ≡ 0 → ⊥ = eqb-false (length d) 0 e in
    record { some = omega arith; all = f; value = cc (simp (e, f, g) at h) })
    (λ g. clash (cc (simp (e, f, g) at h))))
    (λ f. clash (cc (simp (e, f) at h))))

pub number_short : (limit : ℕ) (s : List ℕ) (n : ℕ) → limit < 2 ^ 64 → Ok n ≡ number_of limit s → length (decimal n) ≤ length s
number_short limit s n w h =
    let l = number_le limit n s h in
    omega (arith, plus_short s, digits_short (after_plus s) n (omega arith) (number_digits limit s n h))
