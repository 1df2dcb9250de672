-- One law for each way out of this crate's functions, from what std says of its own. Assumes nothing.
use Rattle.std.specs.Bool.{Decides}
use Prim.Native.Nat.{ℕ, suc, ◌+◌, ◌-◌, ◌≤◌, ◌<◌, min}
use mathlib.Core.Path.{◌≡◌, refl, sym, ap, ◌∙◌}
use mathlib.Core.List.{List, [], ◌∷◌}
use mathlib.Core.Bool.{Bool, true, false, and-false}
use native.Mathlib.Omega.{arith}
use lib.Dec.{eqb, ltb}
use lib.ListN.{length, get_or, drop, take, length-drop, length-take}
use lib.Seq.{take_all, drop-length}
use borrow.Author.Tests.{eq-eqb, ne_eqb, ltb-true, ltb-false}
use Rattle.text.specs.declared.Place.{Place}
use Rattle.text.specs.Word.{same, starts, ends_in}
use Rattle.text.specs.Place.{bytes_at, Lent, PartAt}
use Rattle.text.proofs.Bools.{by_bool, both_ways}
use Rattle.text.proofs.Cuts.{same_eq, same_refl}
use Rattle.text.proofs.Left.{none_left}

-- `is_word`
pub same_lengths : (s w : List ℕ) → (length s ≡ length w → ⊥) → false ≡ same s w
unfolding same
same_lengths [] [] h = absurd (h refl)
same_lengths [] (y ∷ w) h = refl
same_lengths (x ∷ s) [] h = refl
same_lengths (x ∷ s) (y ∷ w) h = simp (← same_lengths s w (λ e. h (ap suc e)), and-false)

pub same_decided : (s w : List ℕ) (r : Bool) → Decides r (s ≡ w) → r ≡ same s w
same_decided s w r d = both_ways r (same s w) (λ e. rw (d.0 e) (same_refl w)) (λ e. d.1 (same_eq s w e))

-- `has_prefix`
pub prefix_short : (w s : List ℕ) → length s < length w → false ≡ starts w s
prefix_short w s h = same_lengths (take (length w) s) w (λ e. omega (arith, length-take (length w) s))

-- `ends_in`
pub ends_empty : (b : ℕ) (s : List ℕ) → length s < 1 → false ≡ ends_in b s
unfolding ends_in
ends_empty b [] h = refl
ends_empty b (x ∷ s) h = absurd (omega arith)

ends_last : (b : ℕ) (s : List ℕ) → 1 ≤ length s → ends_in b s ≡ eqb (get_or s (length s - 1) 0) b
unfolding ends_in
ends_last b [] h = absurd (omega arith)
ends_last b (x ∷ []) h = refl
ends_last b (x ∷ y ∷ s) h =
    let e : length (x ∷ y ∷ s) - 1 ≡ suc (length (y ∷ s) - 1) = omega arith in
    rw e (ends_last b (y ∷ s) (omega arith))

module _ (b : ℕ) (s : List ℕ) (h : 1 ≤ length s) where
  pub ends_here : get_or s (length s - 1) 0 ≡ b → true ≡ ends_in b s
  ends_here e = sym (ends_last b s h ∙ eq-eqb _ _ e)

  pub ends_not : (get_or s (length s - 1) 0 ≡ b → ⊥) → false ≡ ends_in b s
  ends_not e = sym (ends_last b s h ∙ ne_eqb _ _ e)

-- `part`: cut at the end of s, a place and a length reach as far
pub take_cut : (n : ℕ) (s : List ℕ) → take (min n (length s)) s ≡ take n s
take_cut n s =
    by_bool (ltb n (length s))
    (λ h. let e : min n (length s) ≡ n = omega (arith, ltb-true n (length s) h) in rw e)
    (λ h.
    let l : length s ≤ n = omega (arith, ltb-false n (length s) h) in
    let e : min n (length s) ≡ length s = omega arith in
    rw e (take_all (length s) s (omega arith) ∙ sym (take_all n s l)))

pub drop_cut : (n : ℕ) (s : List ℕ) → drop (min n (length s)) s ≡ drop n s
drop_cut n s =
    by_bool (ltb n (length s))
    (λ h. let e : min n (length s) ≡ n = omega (arith, ltb-true n (length s) h) in rw e)
    (λ h.
    let l : length s ≤ n = omega (arith, ltb-false n (length s) h) in
    let e : min n (length s) ≡ length s = omega arith in
    rw e (drop-length s ∙ sym (none_left s n l)))

pub part_of : (p : Place) (s : List ℕ) (start len : ℕ) → start ≡ min p.start (length s) → len ≡ min p.len (length s - start)
    → take (start + len - start) (drop start s) ≡ bytes_at p s
unfolding bytes_at
part_of p s start len e f =
    let k : start + len - start ≡ min p.len (length (drop start s)) = omega (arith, f, length-drop start s) in
    rw k (take_cut p.len (drop start s) ∙ rw (e, drop_cut p.start s) refl)

-- `equal_parts`
pub parts_alike : (v w a b : Lent) (p q : Place) (r : Bool) → PartAt v p a → PartAt w q b → r ≡ same a.now b.now
    → r ≡ same (bytes_at p v.now) (bytes_at q w.now)
parts_alike v w a b p q r f g e = e ∙ simp (f.bytes, g.bytes)

pub ruleset laws = (same_lengths, prefix_short, ends_empty, ends_here, ends_not, part_of, parts_alike)
