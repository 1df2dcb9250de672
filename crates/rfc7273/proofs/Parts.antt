-- The small parts: numbers and EUI-64s of the grammar are read as the numbers of their digits. Assumes nothing.
use Rattle.std.specs.Prelude.{Ok}
use Prim.Native.Nat.{ℕ, zero, suc, ◌+◌, ◌*◌, ◌-◌, ◌≤◌, ◌<◌}
use mathlib.Core.Path.{◌≡◌, refl, sym, ◌∙◌}
use mathlib.Core.Bool.{true, false, ◌&&◌}
use mathlib.Core.List.{List, [], ◌∷◌, ◌++◌}
use native.Mathlib.Omega.{arith}
use lib.Dec.{leb, eqb}
use lib.ListN.{length}
use borrow.Author.Tests.{leb-true, le-leb, lt-ltb, eq-eqb, ne_eqb}
use Rattle.text.proofs.Bools.{clash, and_left, and_right, or_elim}
use Rattle.abnf.specs.Rule.{Rule, nothing, range, letter, ◌or◌, ◌then◌, ◌then_many◌, times, many}
use Rattle.abnf.proofs.Rules.{then_assoc, nothing_then}
use Rattle.abnf.proofs.Many.{many_cons, range_many}
use Rattle.number.specs.Decimal.{is_digit, all_digits, value_from, digits_of, number_of}
use Rattle.number.specs.Hex.{between, hex_digit}
use Rattle.number.proofs.Laws.{grows, hex_decimal, hex_capital_lem, hex_small_lem}
use Rattle.number.proofs.Written.{no_plus}
use Rattle.eui64.specs.Eui64.{cut_at_each, high_digit, segment_of, segments_of, eui64_of}
use Rattle.ipaddr.specs.Address.{digit, hexdig}
use Rattle.rfc7273.specs.Grammar.{eui64}
use Rattle.rfc7273.specs.Means.{hex_value_from}
use Rattle.rfc7273.proofs.Laws.{of_then, of_byte, of_nothing}

-- digits
digit_cons : (x : ℕ) (s : List ℕ) → many digit (x ∷ s) ≡ (is_digit x && many digit s)
unfolding ◌then_many◌ range
digit_cons x s = many_cons digit x s ∙ range_many digit 48 57 x s

all_digits_lem : (s : List ℕ) → many digit s ≡ true → all_digits s ≡ true
unfolding all_digits
all_digits_lem [] h = refl
all_digits_lem (x ∷ s) h =
    let k = sym (digit_cons x s) ∙ h in
    simp (and_left (is_digit x) (many digit s) k, all_digits_lem s (and_right (is_digit x) (many digit s) k))

-- s are digits, one or more
pub record Digits (s : List ℕ) : Type 0 where
  pub some : 0 < length s
  pub all : all_digits s ≡ true

pub digits_are : (a : ℕ) → leb 48 a ≡ true → (s : List ℕ) → (range a 57 then_many digit) s ≡ true → Digits s
unfolding ◌then_many◌ range all_digits
digits_are a l [] h = clash (cc)
digits_are a l (x ∷ s) h =
    let k = sym (range_many digit a 57 x s) ∙ h in
    let b = and_left (between a 57 x) (many digit s) k in
    record {
      some = omega arith;
      all = simp (
        le-leb 48 x (omega (arith, leb-true 48 a l, leb-true a x (and_left (leb a x) (leb x 57) b))),
        and_right (leb a x) (leb x 57) b,
        all_digits_lem s (and_right (between a 57 x) (many digit s) k),
      );
    }

pub number_read : (limit : ℕ) (s : List ℕ) → Digits s → leb (value_from 0 s) limit ≡ true → number_of limit s ≡ Ok (value_from 0 s)
unfolding number_of digits_of
number_read limit s d h = simp (no_plus s d.all, ne_eqb (length s) 0 (λ e. omega (arith, d.some)), d.all, h)

-- a number that begins with a digit other than 0 is not 0
pub not_zero : (s : List ℕ) → (range 49 57 then_many digit) s ≡ true → 0 < value_from 0 s
unfolding ◌then_many◌ range value_from
not_zero [] h = clash (cc)
not_zero (x ∷ s) h =
    let b = and_left (between 49 57 x) (many digit s) (sym (range_many digit 49 57 x s) ∙ h) in
    omega (arith, grows (0 * 10 + (x - 48)) s, leb-true 49 x (and_left (leb 49 x) (leb x 57) b))

-- digits of base 16
record Hex (b : ℕ) : Type 0 where
  low : hex_digit b < 16
  plain : high_digit b ≡ hex_digit b
  no_dash : eqb b 45 ≡ false

hex_of : (b v : ℕ) → v ≡ hex_digit b → v < 16 → 48 ≤ b → Hex b
unfolding high_digit
hex_of b v e l h = record { low = omega arith; plain = simp (ne_eqb b 43 (λ k. omega arith)); no_dash = ne_eqb b 45 (λ k. omega arith) }

of_hexdig : (P : List ℕ → Type 0) → ((b : ℕ) → Hex b → P (b ∷ [])) → (s : List ℕ) → hexdig s ≡ true → P s
unfolding hexdig range ◌or◌
of_hexdig P f [] h = clash (cc)
of_hexdig P f (b ∷ []) h =
    f b
    (or_elim (between 48 57 b) _
    (λ e. let l = lo 48 57 e in let k = hi 48 57 e in hex_of b (b - 48) (hex_decimal b l k) (omega arith) (omega arith))
    (or_elim (between 65 70 b) _
    (λ e. let l = lo 65 70 e in let k = hi 65 70 e in hex_of b (b - 65 + 10) (hex_capital_lem b l k) (omega arith) (omega arith))
    (λ e. let l = lo 97 102 e in let k = hi 97 102 e in hex_of b (b - 97 + 10) (hex_small_lem b l k) (omega arith) (omega arith))) h)
  where
    lo : (a z : ℕ) → between a z b ≡ true → a ≤ b
    lo a z e = leb-true a b (and_left (leb a b) (leb b z) e)

    hi : (a z : ℕ) → between a z b ≡ true → b ≤ z
    hi a z e = leb-true b z (and_right (leb a b) (leb b z) e)
of_hexdig P f (b ∷ c ∷ s) h = clash (cc)

of_pair_lem : (P : List ℕ → Type 0) → ((a b : ℕ) → Hex a → Hex b → P (a ∷ b ∷ [])) → (s : List ℕ) → times 2 hexdig s ≡ true → P s
unfolding times
of_pair_lem P f =
    of_then P hexdig (times 1 hexdig) (λ x y h k.
    of_hexdig (λ z. P (z ++ y)) (λ a ha.
    of_then (λ z. P (a ∷ z)) hexdig nothing (λ u v i j.
    of_hexdig (λ z. P (a ∷ (z ++ v))) (λ b hb. of_nothing (λ z. P (a ∷ b ∷ z)) (f a b ha hb) v j) u i) y k) x h)

-- k segments with a "-" behind each, and one more
record Segments (k : ℕ) (s : List ℕ) : Type 0 where
  long : length s ≡ k * 3 + 2
  reads : (at id : ℕ) → segments_of at id (cut_at_each 45 s) ≡ Ok (hex_value_from id s)

two_digits : (n a b : ℕ) → n * 256 + (a * 16 + b) ≡ (n * 16 + a) * 16 + b
two_digits n a b = omega arith

segment_last : (a b : ℕ) → Hex a → Hex b → Segments 0 (a ∷ b ∷ [])
unfolding segments_of segment_of cut_at_each hex_value_from
segment_last a b ha hb =
    record {
      long = refl;
      reads = λ at id.
          simp (
            ha.no_dash,
            hb.no_dash,
            ha.plain,
            lt-ltb (hex_digit a) 16 ha.low,
            lt-ltb (hex_digit b) 16 hb.low,
            two_digits id (hex_digit a) (hex_digit b),
          );
    }

segment_more : (k : ℕ) (a b : ℕ) (s : List ℕ) → Hex a → Hex b → Segments k s → Segments (suc k) (a ∷ b ∷ 45 ∷ s)
unfolding segments_of segment_of cut_at_each hex_value_from
segment_more k a b s ha hb r =
    record {
      long = omega (arith, r.long);
      reads = λ at id.
          simp (
            ha.no_dash,
            hb.no_dash,
            ha.plain,
            lt-ltb (hex_digit a) 16 ha.low,
            lt-ltb (hex_digit b) 16 hb.low,
            two_digits id (hex_digit a) (hex_digit b),
          ) (r.reads (at + 3) ((id * 16 + hex_digit a) * 16 + hex_digit b));
    }

abbrev segment : Rule
segment = times 2 hexdig then letter "-"

segments : (k : ℕ) (s : List ℕ) → (times k segment then times 2 hexdig) s ≡ true → Segments k s
unfolding times
segments zero s h = of_pair_lem (Segments 0) segment_last s (sym (nothing_then (times 2 hexdig) s) ∙ h)
segments (suc k) s h =
    of_then (Segments (suc k)) segment (times k segment then times 2 hexdig) (λ x y i j.
    of_then (λ z. Segments (suc k) (z ++ y)) (times 2 hexdig) (letter "-") (λ u v l m.
    of_pair_lem (λ z. Segments (suc k) ((z ++ v) ++ y)) (λ a b ha hb.
    of_byte (λ z. Segments (suc k) (a ∷ b ∷ (z ++ y))) 45 (segment_more k a b y ha hb (segments k y j)) v m) u l) x i)
    s (sym (then_assoc segment (times k segment) (times 2 hexdig) s) ∙ h)

pub record Eui (s : List ℕ) : Type 0 where
  pub long : length s ≡ 23
  pub read : eui64_of s ≡ Ok (hex_value_from 0 s)

pub eui_read : (s : List ℕ) → eui64 s ≡ true → Eui s
unfolding eui64 eui64_of
eui_read s h =
    let r = segments 7 s h in
    let l : length s ≡ 23 = omega (arith, r.long) in
    record { long = l; read = simp (eq-eqb (length s) 23 l) (r.reads 0 0) }
