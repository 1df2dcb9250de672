-- Laws of the definitions, one for each way out of this crate's functions. Assumes nothing.
use Rattle.std.specs.Prelude.{Result, Ok, Err}
use Prim.Native.Nat.{ℕ, ◌+◌, ◌*◌, ◌-◌, ◌≤◌, ◌<◌, min}
use mathlib.Core.Path.{◌≡◌, refl, ap, sym, ◌∙◌}
use mathlib.Core.List.{List, [], ◌∷◌}
use mathlib.Core.Bool.{true, false, ◌&&◌, and-false}
use native.Mathlib.Omega.{arith}
use lib.Dec.{leb, ltb, eqb}
use lib.ListN.{length, drop, get_or}
use borrow.Author.Tests.{leb-true, le-leb, lt-leb, eq-eqb, ne_eqb, ltb-true, ltb-false}
use Rattle.text.proofs.Bools.{by_bool, clash}
use Rattle.text.proofs.Left.{rest, rest_is, next_byte, none_left}
use Rattle.number.specs.declared.Reason.TheVariants.{Empty, Digit, Size}
use Rattle.number.specs.Decimal.{after_plus, is_digit, all_digits, value_from, digits_of, number_of}
use Rattle.number.specs.Hex.{between, hex_digit}
use Rattle.number.specs.declared.Reason.{Reason}

-- a byte and a range
pub inside : (a z b : ℕ) → a ≤ b → b ≤ z → between a z b ≡ true
inside a z b h k = simp (le-leb a b h, le-leb b z k)

pub below : (a z b : ℕ) → b < a → between a z b ≡ false
below a z b h = simp (lt-leb a b h)

pub above : (a z b : ℕ) → z < b → between a z b ≡ false
above a z b h = simp (lt-leb b z h, and-false)

-- more digits never make the value less
pub grows : (v : ℕ) (s : List ℕ) → v ≤ value_from v s
unfolding value_from
grows v [] = omega arith
grows v (b ∷ s) = omega (arith, grows (v * 10 + (b - 48)) s)

-- a value that is held at top on the way is the value, held at top
capped : (top v : ℕ) (s : List ℕ) → min (value_from (min v top) s) top ≡ min (value_from v s) top
capped top v s =
    by_bool (ltb v top)
    (λ h.
    let e : min v top ≡ v = omega (arith, ltb-true v top h) in
    ap (λ (n : ℕ). min (value_from n s) top) e)
    (λ h. omega (arith, ltb-false v top h, grows v s, grows (min v top) s))

-- The loop over the digits: what is left settles whether all are digits and, with `value`, the number, held at one over the limit.
pub record Inv (s : List ℕ) (limit value i : ℕ) : Type 0 where
  pub within : i ≤ length s
  pub small : value ≤ limit + 1
  pub digits : all_digits (drop i s) ≡ all_digits s
  pub number : min (value_from value (drop i s)) (limit + 1) ≡ min (value_from 0 s) (limit + 1)

pub digits_empty : (limit : ℕ) (s : List ℕ) → length s ≡ 0 → Err Empty ≡ digits_of limit s
unfolding digits_of
digits_empty limit s h = simp (eq-eqb _ _ h)

pub digits_start : (limit : ℕ) (s : List ℕ) → Inv s limit 0 0
digits_start limit s = record { within = omega arith; small = omega arith; digits = refl; number = refl }

module _ {s : List ℕ} {limit value i : ℕ} (inv : Inv s limit value i) where
  module _ (h : i < length s) where
    first_digit : all_digits s ≡ is_digit (get_or s i 0) && all_digits (drop (i + 1) s)
    unfolding all_digits
    first_digit = sym inv.digits ∙ ap all_digits (next_byte s i h)

    pub digits_next : is_digit (get_or s i 0) ≡ true → (w : ℕ) → w ≡ min (value * 10 + (get_or s i 0 - 48)) (limit + 1)
        → Inv s limit w (i + 1)
    unfolding value_from
    digits_next d w e =
        record {
          within = omega arith;
          small = omega arith;
          digits = sym (first_digit ∙ simp d);
          number =
              rw e
              (capped (limit + 1) (value * 10 + (get_or s i 0 - 48)) (drop (i + 1) s)
              ∙ ap (λ (l : List ℕ). min (value_from value l) (limit + 1)) (sym (next_byte s i h))
              ∙ inv.number);
        }

    pub digits_not : is_digit (get_or s i 0) ≡ false → Err Digit ≡ digits_of limit s
    unfolding digits_of
    digits_not e = simp (ne_eqb (length s) 0 (λ z. omega arith), first_digit, e)

  module _ (some : length s ≡ 0 → ⊥) (h : length s ≤ i) where
    all_are : all_digits s ≡ true
    unfolding all_digits
    all_are = sym inv.digits ∙ ap all_digits (none_left s i h)

    value_is : min value (limit + 1) ≡ min (value_from 0 s) (limit + 1)
    unfolding value_from
    value_is = ap (λ (l : List ℕ). min (value_from value l) (limit + 1)) (sym (none_left s i h)) ∙ inv.number

    pub digits_large : limit < value → Err Size ≡ digits_of limit s
    unfolding digits_of
    digits_large k =
        simp (ne_eqb (length s) 0 some, all_are, lt-leb (value_from 0 s) limit (omega (arith, value_is)))

    pub digits_all : value ≤ limit → Ok value ≡ digits_of limit s
    unfolding digits_of
    digits_all k =
        let e : value_from 0 s ≡ value = omega (arith, value_is) in
        simp (ne_eqb (length s) 0 some, all_are, e, le-leb value limit k)

-- the sign
pub bare_short : (s : List ℕ) → length s < 1 → after_plus s ≡ s
bare_short [] h = refl
bare_short (b ∷ s) h = absurd (omega arith)

pub bare_other : (s : List ℕ) → (get_or s 0 0 ≡ 43 → ⊥) → after_plus s ≡ s
bare_other [] h = refl
bare_other (b ∷ s) h = simp (ne_eqb b 43 h)

behind_plus : (s : List ℕ) → 1 ≤ length s → get_or s 0 0 ≡ 43 → after_plus s ≡ rest 1 s
behind_plus [] some h = absurd (omega arith)
behind_plus (b ∷ s) some h = simp (eq-eqb b 43 h) (sym (rest_is 1 (b ∷ s)))

module _ (limit : ℕ) (s : List ℕ) where
  pub number_plus : 1 ≤ length s → get_or s 0 0 ≡ 43 → (r : Result ℕ Reason) → r ≡ digits_of limit (rest 1 s) → r ≡ number_of limit s
  unfolding number_of
  number_plus some h r e = e ∙ ap (digits_of limit) (sym (behind_plus s some h))

  pub number_bare : after_plus s ≡ s → (r : Result ℕ Reason) → r ≡ digits_of limit s → r ≡ number_of limit s
  unfolding number_of
  number_bare h r e = e ∙ ap (digits_of limit) (sym h)

-- the digits of base 16, in the order of the code's tests
module _ (b : ℕ) where
  pub hex_before : b < 48 → 16 ≡ hex_digit b
  unfolding hex_digit
  hex_before h = simp (below 48 57 b h, below 65 70 b (omega arith), below 97 102 b (omega arith))

  pub hex_decimal : 48 ≤ b → b ≤ 57 → b - 48 ≡ hex_digit b
  unfolding hex_digit
  hex_decimal h k = simp (inside 48 57 b h k)

  pub hex_between : 57 < b → b < 65 → 16 ≡ hex_digit b
  unfolding hex_digit
  hex_between h k = simp (above 48 57 b h, below 65 70 b k, below 97 102 b (omega arith))

  pub hex_capital_lem : 65 ≤ b → b ≤ 70 → b - 65 + 10 ≡ hex_digit b
  unfolding hex_digit
  hex_capital_lem h k = simp (above 48 57 b (omega arith), inside 65 70 b h k)

  pub hex_middle : 70 < b → b < 97 → 16 ≡ hex_digit b
  unfolding hex_digit
  hex_middle h k = simp (above 48 57 b (omega arith), above 65 70 b h, below 97 102 b k)

  pub hex_small_lem : 97 ≤ b → b ≤ 102 → b - 97 + 10 ≡ hex_digit b
  unfolding hex_digit
  hex_small_lem h k = simp (above 48 57 b (omega arith), above 65 70 b (omega arith), inside 97 102 b h k)

  pub hex_behind : 102 < b → 16 ≡ hex_digit b
  unfolding hex_digit
  hex_behind h = simp (above 48 57 b (omega arith), above 65 70 b (omega arith), above 97 102 b h)

pub ruleset laws = (
  digits_empty,
  digits_start,
  digits_next,
  digits_not,
  digits_large,
  digits_all,
  number_plus,
  hex_before,
  hex_decimal,
  hex_between,
  hex_capital_lem,
  hex_middle,
  hex_small_lem,
  hex_behind,
)

-- what callers need: a number that was read is within the limit
pub number_le : (limit n : ℕ) (s : List ℕ) → Ok n ≡ number_of limit s → n ≤ limit
unfolding number_of digits_of
number_le limit n s h =
    let d = after_plus s in
    by_bool (eqb (length d) 0) (λ e. clash (cc (simp e at h)))
    (λ e. by_bool (all_digits d)
    (λ f. by_bool (leb (value_from 0 d) limit)
    (λ g. let k : n ≡ value_from 0 d = cc (simp (e, f, g) at h) in omega (arith, leb-true (value_from 0 d) limit g))
    (λ g. clash (cc (simp (e, f, g) at h))))
    (λ f. clash (cc (simp (e, f) at h))))
