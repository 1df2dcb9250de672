-- Laws of the definitions, one for each way out of this crate's functions. Assumes nothing.
use Rattle.std.specs.Prelude.{Result, Option, Some, None, Ok}
use Prim.Native.Nat.{ℕ, suc, ◌+◌, ◌*◌, ◌^◌, ◌≤◌, ◌<◌}
use mathlib.Core.Path.{◌≡◌, sym, ◌∙◌, ap, refl}
use mathlib.Core.List.{List, [], ◌∷◌}
use mathlib.Core.Bool.{Bool, true, false, cond, ◌&&◌, and-false}
use native.Mathlib.Omega.{arith}
use native.Mathlib.Nat.{pow-suc, pow-le-pow_right, add-zero}
use native.Mathlib.Numerals.{add-one}
use lib.Dec.{ltb, leb, eqb}
use lib.ListN.{length, take, drop, get_or, length-drop}
use lib.Seq.{get_or-drop, get_or-take, drop-drop}
use mir.Val.{Fits}
use mir.Syntax.{w64}
use borrow.Author.Tests.{eq-eqb, ne_eqb, lt-ltb, le-ltb, ltb-true, le-leb, lt-leb, leb-true, eqb-true, eqb-false}
use Rattle.text.specs.Find.{before}
use Rattle.text.proofs.Bools.{by_bool, clash, both_ways, and_left, and_right}
use Rattle.text.proofs.Left.{rest, rest_is}
use Rattle.text.proofs.Cuts.{before_length, before_here, before_later, before_end}
use Rattle.number.specs.Hex.{hex_digit}
use Rattle.eui64.specs.declared.BrokenRule.TheVariants.{Length, SegmentLength, SegmentDigits}
use Rattle.eui64.specs.Eui64.{refused, cut_at_each, high_digit, segment_of, with_byte, segments_of, eui64_of}
use Rattle.eui64.specs.declared.Fault.{Fault}

-- `high_digit`
module _ (b : ℕ) where
  pub high_plus : b ≡ 43 → 0 ≡ high_digit b
  unfolding high_digit
  high_plus e = simp (eq-eqb b 43 e)

  pub high_hex : (b ≡ 43 → ⊥) → (r : ℕ) → r ≡ hex_digit b → r ≡ high_digit b
  unfolding high_digit
  high_hex e r er = simp (ne_eqb b 43 e, er)

-- `read_segment`
module _ (a b high : ℕ) (eh : high ≡ high_digit a) where
  pub segment_high : 16 ≤ high → None ≡ segment_of a b
  unfolding segment_of
  segment_high h = simp (← eh, le-ltb _ _ h)

  module _ (h : high < 16) (low : ℕ) (el : low ≡ hex_digit b) where
    pub segment_low : 16 ≤ low → None ≡ segment_of a b
    unfolding segment_of
    segment_low k = simp (← eh, ← el, le-ltb _ _ k, and-false)

    pub segment_both : low < 16 → Some (high * 16 + low) ≡ segment_of a b
    unfolding segment_of
    segment_both k = simp (← eh, ← el, lt-ltb _ _ h, lt-ltb _ _ k)

-- a segment is a byte
pub segment_small : (a b x : ℕ) → Some x ≡ segment_of a b → x < 256
unfolding segment_of
segment_small a b x e =
    by_bool (ltb (high_digit a) 16 && ltb (hex_digit b) 16)
    (λ h.
    let k : x ≡ high_digit a * 16 + hex_digit b = cc (simp h at e) in
    let l = ltb-true (high_digit a) 16 (and_left (ltb (high_digit a) 16) (ltb (hex_digit b) 16) h) in
    let m = ltb-true (hex_digit b) 16 (and_right (ltb (high_digit a) 16) (ltb (hex_digit b) 16) h) in
    omega arith)
    (λ h. clash (cc (simp h at e)))

-- `has_two_bytes`: two bytes stand before the first "-", or the end, from a place on
module _ (s : List ℕ) (at : ℕ) (h : at + 2 ≤ length s) where
  pub two_first : get_or s at 0 ≡ 45 → false ≡ eqb (before 45 (drop at s)) 2
  two_first e = rw (before_here 45 s at (omega arith) e) refl

  module _ (e : get_or s at 0 ≡ 45 → ⊥) where
    later : before 45 (drop at s) ≡ 1 + before 45 (drop (at + 1) s)
    later = before_later 45 s at (omega arith) e

    pub two_second : get_or s (at + 1) 0 ≡ 45 → false ≡ eqb (before 45 (drop at s)) 2
    two_second f = rw (later, before_here 45 s (at + 1) (omega arith) f) refl

    module _ (f : get_or s (at + 1) 0 ≡ 45 → ⊥) where
      both : before 45 (drop at s) ≡ 2 + before 45 (drop (at + 2) s)
      both =
          let k : at + 1 + 1 ≡ at + 2 = omega arith in
          omega (arith, later, rw k at (before_later 45 s (at + 1) (omega arith) f))

      pub two_end : length s ≤ at + 2 → true ≡ eqb (before 45 (drop at s)) 2
      two_end k = rw (both, before_end 45 s (at + 2) k) refl

      pub two_behind : at + 2 < length s → eqb (get_or s (at + 2) 0) 45 ≡ eqb (before 45 (drop at s)) 2
      two_behind k =
          by_bool (eqb (get_or s (at + 2) 0) 45)
          (λ c. rw (both, before_here 45 s (at + 2) k (eqb-true (get_or s (at + 2) 0) 45 c), c) refl)
          (λ c.
          let l : before 45 (drop (at + 2) s) ≡ 1 + before 45 (drop (at + 2 + 1) s) =
          before_later 45 s (at + 2) k (eqb-false (get_or s (at + 2) 0) 45 c) in
          c ∙ sym (ne_eqb (before 45 (drop at s)) 2 (λ z. absurd (omega (arith, both, l)))))

-- the first segment ends where the first "-" stands, and the others stand behind it
pub cut_first_segment : (s : List ℕ)
    → cut_at_each 45 s ≡ take (before 45 s) s ∷ cond (ltb (before 45 s) (length s)) (cut_at_each 45 (drop (suc (before 45 s)) s)) []
unfolding cut_at_each before
cut_first_segment [] = refl
cut_first_segment (x ∷ s) =
    by_bool (eqb x 45) (λ e. simp (e, lt-ltb 0 (suc (length s)) (omega arith)))
    (λ e. simp (e, cut_first_segment s, suc_ltb (before 45 s) (length s)))
  where
    suc_ltb : (m n : ℕ) → ltb (suc m) (suc n) ≡ ltb m n
    suc_ltb m n = both_ways _ _ (λ h. lt-ltb m n (omega (arith, ltb-true (suc m) (suc n) h))) (λ h. lt-ltb (suc m) (suc n) (omega (arith, ltb-true m n h)))

-- The loop over the segments, `done` of them read: those that are left settle the answer.
unfoldable pub segments_from : ℕ → List ℕ → List (List ℕ)
segments_from at s = cond (leb at (length s)) (cut_at_each 45 (drop at s)) []

pub record Inv (s : List ℕ) (id done : ℕ) : Type 0 where
  pub long : length s ≡ 23
  pub within : done ≤ 8
  pub small : id < 256 ^ done
  pub so_far : eui64_of s ≡ segments_of (done * 3) id (segments_from (done * 3) s)

pub eui_length : (s : List ℕ) (r : Result ℕ Fault) → (length s ≡ 23 → ⊥) → r ≡ refused Length 0 (length s) → r ≡ eui64_of s
unfolding eui64_of
eui_length s r h e = simp (ne_eqb (length s) 23 h, e)

pub eui_start : (s : List ℕ) → length s ≡ 23 → Inv s 0 0
unfolding eui64_of segments_from
eui_start s h =
    record {
      long = h;
      within = omega arith;
      small = omega arith;
      so_far = simp (eq-eqb (length s) 23 h, le-leb 0 (length s) (omega arith));
    }

module _ {s : List ℕ} {id done : ℕ} (inv : Inv s id done) where
  pub eui_end : 8 ≤ done → Ok id ≡ eui64_of s
  unfolding segments_from segments_of
  eui_end h = sym (inv.so_far ∙ simp (lt-leb (done * 3) (length s) (omega (arith, inv.long, inv.within))))

  pub two_asks : done < 8 → done * 3 + 2 ≤ length s
  two_asks h = omega (arith, inv.long)

module _ {s : List ℕ} {id done : ℕ} (inv : Inv s id done) (h : done < 8) where
  below_7 : id < 256 ^ 7
  below_7 = omega (arith, inv.small, pow-le-pow_right {n = 256} (omega arith) {i = done} {j = 7} (omega arith))

  pub eui_shifted : Fits w64 (id * 256)
  eui_shifted = record { fits = omega (arith, below_7) }

  -- one segment, and those behind it
  module _ (len : ℕ) (e : before 45 (drop (done * 3) s) ≡ len) where
    segment_len : length (take len (drop (done * 3) s)) ≡ len
    segment_len = rw (← e) (before_length 45 (drop (done * 3) s))

    turn : segments_from (done * 3) s ≡ take len (drop (done * 3) s) ∷ segments_from (done * 3 + (len + 1)) s
    unfolding segments_from
    turn =
        let at = done * 3 in
        let l = length-drop at s in
        let f : at + suc len ≡ at + (len + 1) = omega arith in
        simp (le-leb at (length s) (omega (arith, inv.long)))
        (cut_first_segment (drop at s)
        ∙ rw (e, drop-drop (suc len) at s, f)
        (ap (λ (t : Bool). take len (drop at s) ∷ cond t (cut_at_each 45 (drop (at + (len + 1)) s)) [])
        (both_ways _ _
        (λ e. le-leb (at + (len + 1)) (length s) (omega (arith, ltb-true len (length (drop at s)) e)))
        (λ e. lt-ltb len (length (drop at s)) (omega (arith, leb-true (at + (len + 1)) (length s) e))))))

  module _ (t : Bool) (e : t ≡ eqb (before 45 (drop (done * 3) s)) 2) where
    pub not_two : t ≡ false → (len : ℕ) → len ≡ before 45 (rest (done * 3) s) → (r : Result ℕ Fault) → r ≡ refused SegmentLength (done * 3) len
        → r ≡ eui64_of s
    unfolding segments_of
    not_two f len el r er =
        let i : before 45 (drop (done * 3) s) ≡ len = sym (el ∙ ap (before 45) (rest_is (done * 3) s)) in
        let k : eqb len 2 ≡ false = rw i at (sym e ∙ f) in
        er ∙ sym (inv.so_far ∙ rw (turn len i) (simp (segment_len len i, k)))

    module _ (f : t ≡ true) (g : Option ℕ) (eg : g ≡ segment_of (get_or s (done * 3) 0) (get_or s (done * 3 + 1) 0)) where
      two : before 45 (drop (done * 3) s) ≡ 2
      two = eqb-true (before 45 (drop (done * 3) s)) 2 (sym e ∙ f)

      -- the two bytes of the segment are those at its place
      bytes : segment_of (get_or (take 2 (drop (done * 3) s)) 0 0) (get_or (take 2 (drop (done * 3) s)) 1 0) ≡ g
      bytes =
          rw (get_or-take 2 (drop (done * 3) s) 0 0 (omega arith), get_or-take 2 (drop (done * 3) s) 1 0 (omega arith))
          (rw (get_or-drop (done * 3) s 0 0, get_or-drop (done * 3) s 1 0, add-zero (done * 3)) (sym eg))

      one : segments_of (done * 3) id (segments_from (done * 3) s)
          ≡ with_byte g (λ x. segments_of (done * 3 + 3) (id * 256 + x) (segments_from (done * 3 + 3) s)) (refused SegmentDigits (done * 3) 2)
      unfolding segments_of
      one = rw (turn 2 two) (simp (segment_len 2 two, bytes))

      pub two_digits : g ≡ None → (r : Result ℕ Fault) → r ≡ refused SegmentDigits (done * 3) 2 → r ≡ eui64_of s
      two_digits k r er = er ∙ sym (inv.so_far ∙ one ∙ simp k)

      pub two_next : (x : ℕ) → g ≡ Some x → Inv s (id * 256 + x) (done + 1)
      two_next x k =
          let p : (done + 1) * 3 ≡ done * 3 + 3 = omega arith in
          record {
            long = inv.long;
            within = omega arith;
            small = rw (add-one done, pow-suc 256 done) (omega (arith, inv.small, segment_small _ _ x (sym k ∙ eg)));
            so_far = inv.so_far ∙ one ∙ simp (k, p);
          }

      pub two_id : (x : ℕ) → g ≡ Some x → Fits w64 (id * 256 + x)
      two_id x k = record { fits = omega (arith, below_7, segment_small _ _ x (sym k ∙ eg)) }

pub ruleset laws = (
  high_plus,
  high_hex,
  segment_high,
  segment_low,
  segment_both,
  two_first,
  two_second,
  two_end,
  two_behind,
  two_asks,
  eui_length,
  eui_start,
  eui_end,
  eui_shifted,
  two_digits,
  two_id,
)
