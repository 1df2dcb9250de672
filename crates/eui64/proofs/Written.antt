-- What a written EUI-64 is: 23 bytes with no colon among them, read back as the number. And what a number that was read tells of its text,
-- and that a fault lies inside it. Assumes nothing.
use Rattle.std.specs.Prelude.{Option, Some, None, Ok, Err}
use Prim.Native.Nat.{ℕ, zero, suc, ◌+◌, ◌-◌, ◌*◌, ◌^◌, ◌/◌, ◌%◌, ◌≤◌, ◌<◌}
use mathlib.Core.Path.{◌≡◌, refl, sym, ap, ◌∙◌}
use mathlib.Core.List.{List, [], ◌∷◌, ◌++◌, append_assoc, append-nil}
use mathlib.Core.Bool.{true, false}
use native.Mathlib.Nat.{pow-suc, pow-succ', mul-le-mul_right, mul_assoc}
use native.Mathlib.Omega.{arith}
use lib.Dec.{eqb, ltb}
use lib.ListN.{length, get_or, length-append}
use borrow.Author.Tests.{eq-eqb, ne_eqb, eqb-true, lt-ltb, ltb-true, ltb-false}
use Rattle.text.specs.Find.{before}
use Rattle.text.proofs.Ascii.{ascii, ascii_cons, ascii_append}
use Rattle.text.proofs.Bools.{by_bool, clash}
use Rattle.text.proofs.Cuts.{before_append}
use Rattle.number.specs.Hex.{hex_digit, hex_capital}
use Rattle.number.proofs.Laws.{hex_decimal, hex_capital_lem}
use Rattle.text.specs.Place.{place}
use Rattle.eui64.specs.declared.Fault.{Fault}
use Rattle.eui64.specs.declared.BrokenRule.{BrokenRule}
use Rattle.eui64.specs.declared.BrokenRule.TheVariants.{Length, SegmentLength, SegmentDigits}
use Rattle.eui64.specs.Eui64.{refused, cut_at_each, high_digit, segment_of, with_byte, segments_of, eui64_of, segment_text, segments_text, eui64_text}
use Rattle.eui64.proofs.Laws.{segment_small, cut_first_segment}

-- x is the capital digit of the value d
record Capital (d x : ℕ) : Type 0 where
  pub value : hex_digit x ≡ d
  pub plus : eqb x 43 ≡ false
  pub dash : eqb x 45 ≡ false
  pub colon : eqb x 58 ≡ false
  pub low : x < 128

capital : (d : ℕ) → d < 16 → Capital d (hex_capital d)
unfolding hex_capital
capital d h =
    by_bool (ltb d 10)
    (λ e.
    let k = ltb-true d 10 e in
    simp e
    (record {
      value = sym (hex_decimal (48 + d) (omega arith) (omega arith)) ∙ omega arith;
      plus = ne_eqb (48 + d) 43 (λ f. omega arith);
      dash = ne_eqb (48 + d) 45 (λ f. omega arith);
      colon = ne_eqb (48 + d) 58 (λ f. omega arith);
      low = omega arith;
    }))
    (λ e.
    let k = ltb-false d 10 e in
    simp e
    (record {
      value = sym (hex_capital_lem (65 + (d - 10)) (omega arith) (omega arith)) ∙ omega arith;
      plus = ne_eqb (65 + (d - 10)) 43 (λ f. omega arith);
      dash = ne_eqb (65 + (d - 10)) 45 (λ f. omega arith);
      colon = ne_eqb (65 + (d - 10)) 58 (λ f. omega arith);
      low = omega arith;
    }))

-- one segment
module _ (b : ℕ) (h : b < 256) where
  high : Capital (b / 16) (hex_capital (b / 16))
  high = capital (b / 16) (omega arith)

  low : Capital (b % 16) (hex_capital (b % 16))
  low = capital (b % 16) (omega arith)

  segment_back : segment_of (hex_capital (b / 16)) (hex_capital (b % 16)) ≡ Some b
  unfolding segment_of high_digit
  segment_back =
      let e : b / 16 * 16 + b % 16 ≡ b = omega arith in
      simp (high.plus, high.value, low.value, lt-ltb (b / 16) 16 (omega arith), lt-ltb (b % 16) 16 (omega arith), e)

  segment_cut : cut_at_each 45 (segment_text b) ≡ segment_text b ∷ []
  unfolding cut_at_each
  segment_cut = simp (high.dash, low.dash)

  segment_read : (at id : ℕ) (ps : List (List ℕ)) → segments_of at id (segment_text b ∷ ps) ≡ segments_of (at + 3) (id * 256 + b) ps
  unfolding segments_of
  segment_read at id ps = simp segment_back

  segment_ascii : ascii (segment_text b) ≡ true
  segment_ascii = simp (lt-ltb _ 128 high.low, lt-ltb _ 128 low.low)

-- a text that is joined by "-" is cut there
cut_append : (s t : List ℕ) → cut_at_each 45 (s ++ 45 ∷ t) ≡ cut_at_each 45 s ++ cut_at_each 45 t
unfolding cut_at_each
cut_append [] t = refl
cut_append (x ∷ s) t =
    by_bool (eqb x 45) (λ e. simp (e, cut_append s t))
    (λ e. simp (e, cut_append s t) (rw (cut_first_segment s)))

segments_back : (k id at : ℕ) (ps : List (List ℕ)) → id < 256 ^ suc k
    → segments_of at 0 (cut_at_each 45 (segments_text k id) ++ ps) ≡ segments_of (at + 3 * suc k) id ps
unfolding segments_text
segments_back zero id at ps h =
    let e : 0 * 256 + id % 256 ≡ id = omega arith in
    rw (segment_cut (id % 256) (omega arith), segment_read (id % 256) (omega arith) at 0 ps, e)
segments_back (suc k) id at ps h =
    let b = id % 256 in
    let e : id / 256 * 256 + id % 256 ≡ id = omega arith in
    let n : at + 3 * suc k + 3 ≡ at + 3 * suc (suc k) = omega arith in
    rw (cut_append (segments_text k (id / 256)) (segment_text (id % 256)), segment_cut (id % 256) (omega arith), append_assoc)
    (segments_back k (id / 256) at (segment_text (id % 256) ∷ ps) (omega (arith, rw pow-suc at h))
    ∙ segment_read (id % 256) (omega arith) (at + 3 * suc k) (id / 256) ps
    ∙ rw (e, n))

segments_length : (k id : ℕ) → length (segments_text k id) ≡ 3 * k + 2
unfolding segments_text
segments_length zero id = refl
segments_length (suc k) id = rw length-append (omega (arith, segments_length k (id / 256)))

pub eui_length : (id : ℕ) → length (eui64_text id) ≡ 23
unfolding eui64_text
eui_length id = segments_length 7 id

pub eui_back : (id : ℕ) → id < 256 ^ 8 → Ok id ≡ eui64_of (eui64_text id)
unfolding eui64_of eui64_text segments_of
eui_back id h =
    sym
    (simp (eq-eqb (length (segments_text 7 id)) 23 (segments_length 7 id))
    (ap (segments_of 0 0) (sym (append-nil (cut_at_each 45 (segments_text 7 id)))) ∙ segments_back 7 id 0 [] h))

-- no colon in it, and no byte from 128 on
segments_free : (k id : ℕ) → before 58 (segments_text k id) ≡ length (segments_text k id)
unfolding segments_text before
segments_free zero id =
    simp ((high (id % 256) (omega arith)).colon, (low (id % 256) (omega arith)).colon)
segments_free (suc k) id =
    before_append 58 (segments_text k (id / 256)) (45 ∷ segment_text (id % 256)) (segments_free k (id / 256))
    ∙ simp (length-append, (high (id % 256) (omega arith)).colon, (low (id % 256) (omega arith)).colon)

pub eui_free : (id : ℕ) → before 58 (eui64_text id) ≡ length (eui64_text id)
unfolding eui64_text
eui_free id = segments_free 7 id

segments_ascii : (k id : ℕ) → ascii (segments_text k id) ≡ true
unfolding segments_text
segments_ascii zero id = segment_ascii (id % 256) (omega arith)
segments_ascii (suc k) id =
    ascii_append (segments_text k (id / 256)) (45 ∷ segment_text (id % 256)) (segments_ascii k (id / 256))
    (ascii_cons 45 (segment_text (id % 256)) (omega arith) (segment_ascii (id % 256) (omega arith)))

pub eui_ascii : (id : ℕ) → ascii (eui64_text id) ≡ true
unfolding eui64_text
eui_ascii id = segments_ascii 7 id

-- a number that was read came from eight segments of two bytes, so it is within 64 bits
pub eui_read_length : (s : List ℕ) (id : ℕ) → Ok id ≡ eui64_of s → length s ≡ 23
unfolding eui64_of
eui_read_length s id h =
    by_bool (eqb (length s) 23) (λ e. eqb-true (length s) 23 e) (λ e. clash (cc (simp e at h)))

-- the bytes of the segments, each with one separator
weight : List (List ℕ) → ℕ
weight [] = 0
weight (p ∷ ps) = length p + 1 + weight ps

cut_weight : (s : List ℕ) → weight (cut_at_each 45 s) ≡ length s + 1
unfolding cut_at_each weight
cut_weight [] = refl
cut_weight (x ∷ s) =
    by_bool (eqb x 45) (λ e. simp e (omega (arith, cut_weight s)))
    (λ e. simp e (rw (cut_first_segment s) (omega (arith, rw (cut_first_segment s) at (cut_weight s)))))

record Read (id : ℕ) (ps : List (List ℕ)) (g : ℕ) : Type 0 where
  pub even : weight ps ≡ 3 * length ps
  pub bound : g < suc id * 256 ^ length ps

segments_read : (at id : ℕ) (ps : List (List ℕ)) (g : ℕ) → Ok g ≡ segments_of at id ps → Read id ps g
unfolding segments_of weight
segments_read at id [] g h = let k : g ≡ id = cc in record { even = refl; bound = omega arith }
segments_read at id (p ∷ ps) g h =
    by_bool (eqb (length p) 2)
    (λ e.
    go (segment_of (get_or p 0 0) (get_or p 1 0)) (segment_small (get_or p 0 0) (get_or p 1 0))
    (λ x. segments_read (at + 3) (id * 256 + x) ps g) (eqb-true (length p) 2 e) (simp e at h))
    (λ e. clash (cc (simp e at h)))
  where
    go : (r : Option ℕ) → ((x : ℕ) → Some x ≡ r → x < 256)
        → ((x : ℕ) → Ok g ≡ segments_of (at + 3) (id * 256 + x) ps → Read (id * 256 + x) ps g) → length p ≡ 2
        → Ok g ≡ with_byte r (λ x. segments_of (at + 3) (id * 256 + x) ps) (refused SegmentDigits at 2) → Read id (p ∷ ps) g
    go (Some x) small more l h =
        let r = more x h in
        let k = small x refl in
        let a : suc (id * 256 + x) * 256 ^ length ps ≤ suc id * 256 * 256 ^ length ps = mul-le-mul_right (256 ^ length ps) (omega arith) in
        record {
          even = omega (arith, r.even);
          bound = rw (pow-succ' 256 (length ps), ← mul_assoc) (omega (arith, r.bound));
        }
    go None small more l h = clash (cc)

pub eui_bound : (s : List ℕ) (id : ℕ) → Ok id ≡ eui64_of s → id < 256 ^ 8
unfolding eui64_of
eui_bound s id h =
    let l = eui_read_length s id h in
    let r = segments_read 0 0 (cut_at_each 45 s) id (simp (eq-eqb (length s) 23 l) at h) in
    let n : length (cut_at_each 45 s) ≡ 8 = omega (arith, r.even, cut_weight s) in
    omega (arith, rw n at r.bound)

-- a fault of the segments lies inside their text
module _ (f : Fault) where
  fault_at : (broken : BrokenRule) (at n top : ℕ) → Err f ≡ refused broken at n → at + n ≤ top → f.place.start + f.place.len ≤ top
  fault_at broken at n top h k = let e : f ≡ record { rule = broken; place = place at n } = cc in rw e k

  segments_fault : (at id : ℕ) (ps : List (List ℕ)) → Err f ≡ segments_of at id ps → f.place.start + f.place.len < at + weight ps
  unfolding segments_of weight
  segments_fault at id [] h = clash (cc)
  segments_fault at id (p ∷ ps) h =
      by_bool (eqb (length p) 2)
      (λ e.
      go (segment_of (get_or p 0 0) (get_or p 1 0)) (λ x. segments_fault (at + 3) (id * 256 + x) ps) (eqb-true (length p) 2 e) (simp e at h))
      (λ e. omega (arith, fault_at SegmentLength at (length p) (at + length p) (simp e at h) (omega arith)))
    where
      go : (r : Option ℕ) → ((x : ℕ) → Err f ≡ segments_of (at + 3) (id * 256 + x) ps → f.place.start + f.place.len < at + 3 + weight ps)
          → length p ≡ 2
          → Err f ≡ with_byte r (λ x. segments_of (at + 3) (id * 256 + x) ps) (refused SegmentDigits at 2)
          → f.place.start + f.place.len < at + weight (p ∷ ps)
      go (Some x) more l h = omega (arith, more x h)
      go None more l h = omega (arith, fault_at SegmentDigits at 2 (at + 2) h (omega arith))

  pub eui_fault : (s : List ℕ) → Err f ≡ eui64_of s → f.place.start + f.place.len ≤ length s
  unfolding eui64_of
  eui_fault s h =
      by_bool (eqb (length s) 23)
      (λ e. omega (arith, segments_fault 0 0 (cut_at_each 45 s) (simp e at h), cut_weight s))
      (λ e. fault_at Length 0 (length s) (length s) (simp e at h) (omega arith))
