-- One number of an address, and the words that are held. Assumes nothing.
use Prim.Native.Nat.{ℕ, zero, suc, ◌+◌, ◌*◌, ◌-◌, ◌≤◌, ◌<◌}
use mathlib.Core.Path.{◌≡◌, refl, sym, ap, ◌∙◌}
use mathlib.Core.Bool.{Bool, true, false}
use mathlib.Core.List.{List, [], ◌∷◌, ◌++◌, append_assoc, append-nil}
use native.Mathlib.Nat.{le-mul_of_pos_right}
use native.Mathlib.Omega.{arith}
use mir.Syntax.{w8, w16}
use mir.Val.{Fits}
use lib.Dec.{leb}
use lib.ListN.{length, take, drop, get_or, set, replicate, length-append, length-replicate, drop_of_length-le}
use lib.Seq.{paste, set-append_seam, take-append_seam, take-append-add}
use borrow.Author.Tests.{lt-ltb, le-ltb, leb-true, leb-false, not-true, not-false}
use Rattle.std.specs.Prelude.{Option, Some, None}
use Rattle.text.proofs.Bools.{by_bool, clash}
use Rattle.text.proofs.Left.{next_byte, none_left}
use Rattle.number.specs.Hex.{hex_digit}
use Rattle.ipaddr.specs.Address.{dec_octet, h16}
use Rattle.ipaddr.specs.Number.{filled}
use Rattle.ipaddr.specs.Private.Value.{valued}
use Rattle.ipaddr.proofs.Number.{octet_small, group_small}
use Rattle.ipnumber.specs.declared.Words.{Words}
use Rattle.ipnumber.specs.Private.Holding.{words, holding, octet_of, group_of, pushed, Small, with_pairs, wide}

pub none_held : words 0 (replicate 8 0) ≡ holding []
unfolding holding
none_held = refl

-- `value`: what is left gives the value of all
pub record Valuing (base : ℕ) (s : List ℕ) (v i : ℕ) : Type 0 where
  pub within : i ≤ length s
  pub so_far : valued base v (drop i s) ≡ valued base 0 s

pub value_start : (base : ℕ) (s : List ℕ) → Valuing base s 0 0
value_start base s = record { within = omega arith; so_far = refl }

grows : (base v : ℕ) (s : List ℕ) → 0 < base → v ≤ valued base v s
unfolding valued
grows base v [] h = omega arith
grows base v (x ∷ s) h = omega (arith, grows base (v * base + hex_digit x) s h, le-mul_of_pos_right {m = base} v h)

module _ {base : ℕ} {s : List ℕ} {v i : ℕ} (inv : Valuing base s v i) where
  pub value_all : length s ≤ i → v ≡ valued base 0 s
  unfolding valued
  value_all h = rw (none_left s i h) at inv.so_far

  module _ (h : i < length s) where
    next : valued base (v * base + hex_digit (get_or s i 0)) (drop (i + 1) s) ≡ valued base 0 s
    unfolding valued
    next = rw (next_byte s i h) at inv.so_far

    below : Small base s → v * base + hex_digit (get_or s i 0) < 65536
    below small = omega (arith, grows base (v * base + hex_digit (get_or s i 0)) (drop (i + 1) s) small.some, next, small.fits)

    pub value_times : Small base s → Fits w16 (v * base)
    value_times small = record { fits = omega (arith, below small) }

    module _ (b d : ℕ) (eb : b ≡ hex_digit (get_or s i 0)) (ed : d ≡ b) where
      pub value_plus : Small base s → Fits w16 (v * base + d)
      value_plus small = record { fits = omega (arith, below small) }

      pub value_next : Valuing base s (v * base + d) (i + 1)
      value_next = record { within = omega arith; so_far = rw (ed ∙ eb) next }

-- `octet` and `group`
module _ (s : List ℕ) (t : Bool) (et : t ≡ dec_octet s) where
  pub octet_fits : t ≡ true → Small 10 s
  octet_fits e = record { some = omega arith; fits = omega (arith, octet_small s (sym et ∙ e)) }

  pub octet_byte : t ≡ true → (r : ℕ) → r ≡ valued 10 0 s → Fits w8 r
  octet_byte e r er = record { fits = omega (arith, octet_small s (sym et ∙ e)) }

  pub octet_is : t ≡ true → (r : ℕ) → r ≡ valued 10 0 s → Some r ≡ octet_of s
  unfolding octet_of
  octet_is e r er = ap Some er ∙ sym (rw (← et, e))

  pub octet_not : t ≡ false → None ≡ octet_of s
  unfolding octet_of
  octet_not e = sym (rw (← et, e))

module _ (s : List ℕ) (t : Bool) (et : t ≡ h16 s) where
  pub group_fits : t ≡ true → Small 16 s
  group_fits e = record { some = omega arith; fits = group_small s (sym et ∙ e) }

  pub group_is : t ≡ true → (r : ℕ) → r ≡ valued 16 0 s → Some r ≡ group_of s
  unfolding group_of
  group_is e r er = ap Some er ∙ sym (rw (← et, e))

  pub group_not : t ≡ false → None ≡ group_of s
  unfolding group_of
  group_not e = sym (rw (← et, e))

-- what their answers tell
module _ (s : List ℕ) (r : Option ℕ) where
  pub octet_none : r ≡ octet_of s → r ≡ None → dec_octet s ≡ false
  unfolding octet_of
  octet_none er e = by_bool (dec_octet s) (λ h. let k : r ≡ Some (valued 10 0 s) = er ∙ rw h in clash (cc)) (λ h. h)

  pub octet_some : r ≡ octet_of s → (x : ℕ) → r ≡ Some x → (dec_octet s ≡ true) × (x ≡ valued 10 0 s)
  unfolding octet_of
  octet_some er x e =
      by_bool (dec_octet s) (λ h. let k : r ≡ Some (valued 10 0 s) = er ∙ rw h in (h, cc)) (λ h. let k : r ≡ None = er ∙ rw h in clash (cc))

  pub group_none : r ≡ group_of s → r ≡ None → h16 s ≡ false
  unfolding group_of
  group_none er e = by_bool (h16 s) (λ h. let k : r ≡ Some (valued 16 0 s) = er ∙ rw h in clash (cc)) (λ h. h)

  pub group_some : r ≡ group_of s → (x : ℕ) → r ≡ Some x → (h16 s ≡ true) × (x ≡ valued 16 0 s)
  unfolding group_of
  group_some er x e =
      by_bool (h16 s) (λ h. let k : r ≡ Some (valued 16 0 s) = er ∙ rw h in (h, cc)) (λ h. let k : r ≡ None = er ∙ rw h in clash (cc))

-- `push`
module _ (w : Words) (x : ℕ) where
  pub push_full : 7 < w.count → None ≡ pushed w x
  unfolding pushed
  push_full h = sym (rw (le-ltb w.count 8 (omega arith)))

  pub push_word : w.count ≤ 7 → Some (words (w.count + 1) (set w.words w.count x)) ≡ pushed w x
  unfolding pushed
  push_word h = sym (rw (lt-ltb w.count 8 (omega arith)))

-- `push_pairs`
module _ (w : Words) (os : List ℕ) (a : ℕ) (r : Option Words) (ea : a ≡ get_or os 0 0 * 256 + get_or os 1 0) (er : r ≡ pushed w a) where
  pub pairs_none : r ≡ None → None ≡ with_pairs w os
  unfolding with_pairs
  pairs_none e = sym (rw (← ea, ← er, e))

  pub pairs_some : (w' : Words) → r ≡ Some w' → (b : ℕ) → b ≡ get_or os 2 0 * 256 + get_or os 3 0 → (q : Option Words) → q ≡ pushed w' b
      → q ≡ with_pairs w os
  unfolding with_pairs
  pairs_some w' e b eb q eq = eq ∙ sym (rw (← ea, ← er, e, ← eb))

-- `wide`
pub wide_4 : (os : List ℕ) → length os ≡ 4
    → get_or os 0 0 ∷ get_or os 1 0 ∷ get_or os 2 0 ∷ get_or os 3 0 ∷ 0 ∷ 0 ∷ 0 ∷ 0 ∷ [] ≡ wide os
unfolding wide
wide_4 [] h = absurd (omega arith)
wide_4 (a ∷ []) h = absurd (omega arith)
wide_4 (a ∷ b ∷ []) h = absurd (omega arith)
wide_4 (a ∷ b ∷ c ∷ []) h = absurd (omega arith)
wide_4 (a ∷ b ∷ c ∷ d ∷ []) h = refl
wide_4 (a ∷ b ∷ c ∷ d ∷ e ∷ os) h = absurd (omega arith)

-- what is held so far
pub held_count : {w : Words} (l : List ℕ) → w ≡ holding l → w.count ≡ length l
unfolding holding
held_count l e = rw e

-- one number more in front of the rest
pub joined : (l : List ℕ) (x : ℕ) (r t : List ℕ) → l ++ x ∷ r ≡ t → (l ++ x ∷ []) ++ r ≡ t
joined l x r t e = append_assoc l (x ∷ []) r ∙ e

-- words are full, or have room
pub by_room : {P : Type 0} (w : Words) → (w.count < 8 → P) → (8 ≤ w.count → P) → P
by_room w f g = by_bool (leb 8 w.count) (λ e. g (leb-true 8 w.count e)) (λ e. f (leb-false 8 w.count e))

-- what is pushed on words that are held
pub push_held : {w : Words} (l : List ℕ) (x : ℕ) → w ≡ holding l → w.count < 8 → pushed w x ≡ Some (holding (l ++ x ∷ []))
unfolding pushed holding
push_held {w} l x e h =
    let n : length (l ++ x ∷ []) ≡ length l + 1 = length-append l (x ∷ []) in
    let k = held_count l e in
    let m : 8 - length l ≡ suc (8 - length (l ++ x ∷ [])) = omega arith in
    rw (e, lt-ltb (length l) 8 (omega arith))
    (rw m
    (ap (λ (ws : List ℕ). Some (words (length l + 1) ws))
    (set-append_seam l 0 (replicate (8 - length (l ++ x ∷ [])) 0) x ∙ sym (append_assoc l (x ∷ []) _))
    ∙ ap (λ (n : ℕ). Some (words n (l ++ x ∷ [] ++ replicate (8 - length (l ++ x ∷ [])) 0))) (sym n)))

-- what the answer of `push` tells
module _ (w : Words) (x : ℕ) (r : Option Words) (er : r ≡ pushed w x) where
  pub push_none : r ≡ None → 8 ≤ w.count
  push_none e = by_room w (λ h. let k = er ∙ sym (push_word w x (omega arith)) in clash (cc)) (λ h. h)

  pub push_room : (w' : Words) → r ≡ Some w' → w.count < 8
  push_room w' e = by_room w (λ h. h) (λ h. let k = er ∙ sym (push_full w x (omega arith)) in clash (cc))

  pub push_some : (l : List ℕ) → w ≡ holding l → (w' : Words) → r ≡ Some w' → w' ≡ holding (l ++ x ∷ [])
  push_some l e w' f = let k = er ∙ push_held l x e (push_room w' f) in cc

-- one word more
pub held_more : {w w' : Words} (l : List ℕ) (x : ℕ) → w ≡ holding l → w' ≡ holding (l ++ x ∷ []) → w'.count ≡ w.count + 1
held_more l x e f = held_count (l ++ x ∷ []) f ∙ length-append l (x ∷ []) ∙ ap (λ (n : ℕ). n + 1) (sym (held_count l e))

take_zeros : (n m : ℕ) → n ≤ m → take n (replicate {A = ℕ} m 0) ≡ replicate n 0
take_zeros zero m h = refl
take_zeros (suc n) zero h = absurd (omega arith)
take_zeros (suc n) (suc m) h = ap (λ (l : List ℕ). 0 ∷ l) (take_zeros n m (omega arith))

pub fill_held : (l r : List ℕ) → length l + length r ≤ 8
    → paste (holding l).words (8 - length r) (holding r).words (length r) ≡ filled l r
unfolding holding
fill_held l r h =
    let e : 8 - length r ≡ length l + (8 - (length l + length r)) = omega arith in
    let z : 8 - length r + length r ≡ 8 = omega arith in
    let zeros = length-replicate {A = ℕ} (8 - length l) 0 in
    let all : length (l ++ replicate (8 - length l) 0) ≤ 8 = omega (arith, length-append l (replicate (8 - length l) 0), zeros) in
    rw (
      z,
      drop_of_length-le (l ++ replicate (8 - length l) 0) all,
      append-nil,
      take-append_seam r (replicate (8 - length r) 0),
      e,
      take-append-add l (replicate (8 - length l) 0) (8 - (length l + length r)),
      take_zeros (8 - (length l + length r)) (8 - length l) (omega arith),
    )

pub ruleset laws = (
  none_held,
  value_start,
  value_next,
  value_times,
  value_plus,
  value_all,
  octet_fits,
  octet_byte,
  octet_is,
  octet_not,
  group_fits,
  group_is,
  group_not,
  push_full,
  push_word,
  pairs_none,
  pairs_some,
  wide_4,
  not-true,
  not-false,
)
