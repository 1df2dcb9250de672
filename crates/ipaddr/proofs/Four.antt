-- IPv4address: an octet of each length, and the octets between dots. Assumes nothing.
use Prim.Native.Nat.{ℕ, zero, suc, ◌+◌, ◌-◌, ◌≤◌, ◌<◌}
use mathlib.Core.Path.{◌≡◌, refl, sym, ap, ◌∙◌}
use mathlib.Core.Bool.{Bool, true, false, ◌&&◌, ◌||◌, and-true, and-false, or-false}
use mathlib.Core.List.{List, [], ◌∷◌}
use native.Mathlib.Omega.{arith}
use lib.Dec.{leb, ltb, eqb}
use lib.ListN.{length, take, drop, get_or, length-drop}
use borrow.Author.Tests.{le-leb, leb-true, eqb-true, lt-ltb, le-ltb}
use Rattle.text.specs.Find.{before}
use Rattle.text.proofs.Bools.{by_bool, and_left, and_right, both, or_elim}
use Rattle.text.proofs.Left.{rest, rest_is}
use Rattle.number.specs.Hex.{between}
use Rattle.abnf.specs.Rule.{Rule, nothing, range, letter, ◌or◌, ◌then◌, times}
use Rattle.abnf.proofs.Rules.{Has, range_then, range_then_nil, byte_is, cut_then, cut_has}
use Rattle.abnf.proofs.Places.{then_at}
use Rattle.abnf.proofs.Free.{Lacks, free_laws}
use Rattle.ipaddr.specs.Address.{dec_octet, ipv4address}

-- an octet of each length
pub dec_1 : (x : ℕ) → dec_octet (x ∷ []) ≡ between 48 57 x
unfolding dec_octet ◌or◌ range times nothing
dec_1 x = simp (range_then, range_then_nil, and-false, or-false)

pub dec_2 : (x y : ℕ) → dec_octet (x ∷ y ∷ []) ≡ between 49 57 x && between 48 57 y
unfolding dec_octet ◌or◌ range times nothing
dec_2 x y = simp (range_then, range_then_nil, and-false, or-false)

-- one of three digits, by the first two
abbrev pub large : ℕ → ℕ → ℕ → Bool
large x y z =
    (eqb x 49 && (between 48 57 y && between 48 57 z))
    || ((eqb x 50 && (between 48 52 y && between 48 57 z)) || (eqb x 50 && (eqb y 53 && between 48 53 z)))

pub dec_3 : (x y z : ℕ) → dec_octet (x ∷ y ∷ z ∷ []) ≡ large x y z
unfolding dec_octet ◌or◌ range times nothing
dec_3 x y z = simp (range_then, and-false, and-true, byte_is)

pub dec_4 : (x y z w : ℕ) (s : List ℕ) → dec_octet (x ∷ y ∷ z ∷ w ∷ s) ≡ false
unfolding dec_octet ◌or◌ range times nothing
dec_4 x y z w s = simp (range_then, and-false)

pub dec_0 : dec_octet [] ≡ false
unfolding dec_octet ◌or◌ range times nothing
dec_0 = simp range_then_nil

-- `is_dec_octet`: a byte of a range
in_range : (a z b : ℕ) → a ≤ b → b < z + 1 → between a z b ≡ true
in_range a z b h k = rw (le-leb a b h) (le-leb b z (omega arith))

record InRange (a z b : ℕ) : Type 0 where
  low : a ≤ b
  high : b < z + 1

range_of : (a z b : ℕ) → between a z b ≡ true → InRange a z b
range_of a z b e =
    record { low = leb-true a b (and_left (leb a b) (leb b z) e); high = omega (arith, leb-true b z (and_right (leb a b) (leb b z) e)) }

pub octet_1 : (s : List ℕ) → length s ≡ 1 → 48 ≤ get_or s 0 0 → get_or s 0 0 < 58 → true ≡ dec_octet s
octet_1 [] h l m = absurd (omega arith)
octet_1 (x ∷ []) h l m = sym (dec_1 x ∙ in_range 48 57 x l m)
octet_1 (x ∷ y ∷ s) h l m = absurd (omega arith)

pub octet_2 : (s : List ℕ) → length s ≡ 2 → 49 ≤ get_or s 0 0 → get_or s 0 0 < 58 → 48 ≤ get_or s 1 0 → get_or s 1 0 < 58 → true ≡ dec_octet s
octet_2 [] h l m n o = absurd (omega arith)
octet_2 (x ∷ []) h l m n o = absurd (omega arith)
octet_2 (x ∷ y ∷ []) h l m n o = sym (dec_2 x y ∙ both (in_range 49 57 x l m) (in_range 48 57 y n o))
octet_2 (x ∷ y ∷ z ∷ s) h l m n o = absurd (omega arith)

three : (s : List ℕ) → length s ≡ 3 → dec_octet s ≡ large (get_or s 0 0) (get_or s 1 0) (get_or s 2 0)
three [] h = absurd (omega arith)
three (x ∷ []) h = absurd (omega arith)
three (x ∷ y ∷ []) h = absurd (omega arith)
three (x ∷ y ∷ z ∷ []) h = dec_3 x y z
three (x ∷ y ∷ z ∷ w ∷ s) h = absurd (omega arith)

module _ (s : List ℕ) (h : length s ≡ 3) (low : 48 ≤ get_or s 2 0) where
  pub octet_100 : get_or s 0 0 ≡ 49 → 48 ≤ get_or s 1 0 → get_or s 1 0 < 58 → get_or s 2 0 < 58 → true ≡ dec_octet s
  octet_100 one l m high =
      sym (three s h ∙ rw (one, in_range 48 57 (get_or s 1 0) l m, in_range 48 57 (get_or s 2 0) low high))

  pub octet_200 : get_or s 0 0 ≡ 50 → 48 ≤ get_or s 1 0 → get_or s 1 0 < 53 → get_or s 2 0 < 58 → true ≡ dec_octet s
  octet_200 two l m high =
      sym (three s h ∙ rw (two, in_range 48 52 (get_or s 1 0) l m, in_range 48 57 (get_or s 2 0) low high))

  pub octet_250 : get_or s 0 0 ≡ 50 → get_or s 1 0 ≡ 53 → get_or s 2 0 < 54 → true ≡ dec_octet s
  octet_250 two five high = sym (three s h ∙ rw (two, five, in_range 48 53 (get_or s 2 0) low high))

-- any other text
pub octet_none : (s : List ℕ)
    → (length s ≡ 1 → 48 ≤ get_or s 0 0 → get_or s 0 0 < 58 → ⊥)
    → (length s ≡ 2 → 49 ≤ get_or s 0 0 → get_or s 0 0 < 58 → 48 ≤ get_or s 1 0 → get_or s 1 0 < 58 → ⊥)
    → (length s ≡ 3 → get_or s 0 0 ≡ 49 → 48 ≤ get_or s 1 0 → get_or s 1 0 < 58 → 48 ≤ get_or s 2 0 → get_or s 2 0 < 58 → ⊥)
    → (length s ≡ 3 → get_or s 0 0 ≡ 50 → 48 ≤ get_or s 1 0 → get_or s 1 0 < 53 → 48 ≤ get_or s 2 0 → get_or s 2 0 < 58 → ⊥)
    → (length s ≡ 3 → get_or s 0 0 ≡ 50 → get_or s 1 0 ≡ 53 → 48 ≤ get_or s 2 0 → get_or s 2 0 < 54 → ⊥)
    → false ≡ dec_octet s
octet_none [] f g h i j = sym dec_0
octet_none (x ∷ []) f g h i j =
    by_bool (between 48 57 x) (λ e. let r = range_of 48 57 x e in absurd (f refl r.low r.high)) (λ e. sym (dec_1 x ∙ e))
octet_none (x ∷ y ∷ []) f g h i j =
    by_bool (between 49 57 x && between 48 57 y)
    (λ e.
    let r = range_of 49 57 x (and_left (between 49 57 x) (between 48 57 y) e) in
    let t = range_of 48 57 y (and_right (between 49 57 x) (between 48 57 y) e) in
    absurd (g refl r.low r.high t.low t.high))
    (λ e. sym (dec_2 x y ∙ e))
octet_none (x ∷ y ∷ z ∷ []) f g h i j =
    by_bool (large x y z)
    (or_elim _ _
    (λ e.
    let d = and_right (eqb x 49) (between 48 57 y && between 48 57 z) e in
    let r = range_of 48 57 y (and_left (between 48 57 y) (between 48 57 z) d) in
    let t = range_of 48 57 z (and_right (between 48 57 y) (between 48 57 z) d) in
    absurd (h refl (eqb-true x 49 (and_left (eqb x 49) (between 48 57 y && between 48 57 z) e)) r.low r.high t.low t.high))
    (or_elim _ _
    (λ e.
    let d = and_right (eqb x 50) (between 48 52 y && between 48 57 z) e in
    let r = range_of 48 52 y (and_left (between 48 52 y) (between 48 57 z) d) in
    let t = range_of 48 57 z (and_right (between 48 52 y) (between 48 57 z) d) in
    absurd (i refl (eqb-true x 50 (and_left (eqb x 50) (between 48 52 y && between 48 57 z) e)) r.low r.high t.low t.high))
    (λ e.
    let d = and_right (eqb x 50) (eqb y 53 && between 48 53 z) e in
    let t = range_of 48 53 z (and_right (eqb y 53) (between 48 53 z) d) in
    absurd (
    j refl (eqb-true x 50 (and_left (eqb x 50) (eqb y 53 && between 48 53 z) e)) (eqb-true y 53 (and_left (eqb y 53) (between 48 53 z) d)) t.low
    t.high
    ))))
    (λ e. sym (dec_3 x y z ∙ e))
octet_none (x ∷ y ∷ z ∷ w ∷ s) f g h i j = sym (dec_4 x y z w s)

pub ruleset octet_laws = (octet_1, octet_2, octet_100, octet_200, octet_250, octet_none)

-- m octets with a dot behind each, and one more
unfoldable pub octets : ℕ → Rule
octets zero = dec_octet
octets (suc m) = dec_octet then letter "." then octets m

pub four_octets : (s : List ℕ) → octets 3 s ≡ ipv4address s
unfolding octets ipv4address
four_octets s = refl

pub octet_lacks : Lacks 46 dec_octet
unfolding dec_octet
octet_lacks = search free_laws depth 20

-- `is_ipv4_address`: what is left is to be an octet more than dots are to come
pub record Four (s : List ℕ) (done : ℕ) (left : List ℕ) : Type 0 where
  pub within : length left ≤ length s
  pub so_far : octets (3 - done) left ≡ ipv4address s

pub four_start : (s : List ℕ) → Four s 0 s
four_start s = record { within = omega arith; so_far = four_octets s }

pub octets_at : (m : ℕ) (t : List ℕ)
    → octets (suc m) t ≡ ltb (before 46 t) (length t) && (dec_octet (take (before 46 t) t) && octets m (drop (suc (before 46 t)) t))
unfolding octets
octets_at m t = then_at 46 dec_octet (octets m) octet_lacks.free t

module _ (s left : List ℕ) (n : ℕ) (en : n ≡ before 46 left) (done : ℕ) (inv : Four s done left) (some : done < 3) where
  step : ipv4address s ≡ ltb n (length left) && (dec_octet (take n left) && octets (3 - (done + 1)) (drop (n + 1) left))
  step =
      let d : suc (3 - (done + 1)) ≡ 3 - done = omega arith in
      let k : suc n ≡ n + 1 = omega arith in
      sym inv.so_far ∙ ap (λ (m : ℕ). octets m left) (sym d) ∙ octets_at (3 - (done + 1)) left ∙ rw (← en, k)

  pub four_none : length left ≤ n → false ≡ ipv4address s
  four_none h = sym (step ∙ rw (le-ltb n (length left) h))

  module _ (h : n < length left) (r : Bool) (er : r ≡ dec_octet (take n left)) where
    pub four_bad : r ≡ false → false ≡ ipv4address s
    four_bad e = sym (step ∙ rw (lt-ltb n (length left) h, ← er, e))

    pub four_next : r ≡ true → Four s (done + 1) (rest (n + 1) left)
    four_next e =
        record {
          within = omega (arith, inv.within, ap length (rest_is (n + 1) left), length-drop (n + 1) left);
          so_far = ap (octets (3 - (done + 1))) (rest_is (n + 1) left) ∙ sym (step ∙ rw (lt-ltb n (length left) h, ← er, e));
        }

pub four_end : (s left : List ℕ) (r : Bool) → Four s 3 left → r ≡ dec_octet left → r ≡ ipv4address s
unfolding octets
four_end s left r inv er = er ∙ inv.so_far

pub four_nil : ipv4address [] ≡ false
unfolding before
four_nil = sym (four_octets []) ∙ octets_at 2 []

-- an IPv4address has a dot and no colon
pub four_lacks : Lacks 58 ipv4address
unfolding ipv4address dec_octet
four_lacks = search free_laws depth 20

pub four_dot : (s : List ℕ) → ipv4address s ≡ true → Has 46 s
unfolding octets
four_dot s e = cut_has 46 dec_octet (octets 2) s (sym (cut_then 46 dec_octet (octets 2) octet_lacks.free s) ∙ four_octets s ∙ e)

pub ruleset laws = (four_start, four_none, four_bad, four_next, four_end)
