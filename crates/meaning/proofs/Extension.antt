-- Extensions, of either attribute: an accepted text s is its name, and where there is a "=" that and the value behind it. Assumes nothing.
use Rattle.std.specs.Prelude.{Option, Some, None, Ok}
use Prim.Native.Nat.{ℕ, ◌+◌, ◌-◌, ◌≤◌}
use mathlib.Core.Path.{◌≡◌, ◌∙◌}
use mathlib.Core.List.{List, ◌++◌, append-nil}
use mathlib.Core.Bool.{true, cond, ◌&&◌}
use native.Mathlib.Omega.{arith}
use lib.Dec.{ltb, eqb}
use lib.ListN.{length, take, drop}
use lib.Seq.{drop-drop, take_all}
use borrow.Author.Tests.{ltb-true, ltb-false, le-leb}
use Rattle.text.specs.Find.{before}
use Rattle.text.specs.Place.{place, bytes_at}
use Rattle.text.specs.declared.Place.{Place}
use Rattle.text.proofs.Bools.{by_bool, clash, both}
use Rattle.text.proofs.Cuts.{before_le}
use Rattle.text.proofs.Left.{rest_is}
use Rattle.meaning.specs.Answer.{extension_of}
use Rattle.meaning.specs.Meaning.{value_means}
use Rattle.meaning.specs.Text.{value_text}
use Rattle.meaning.specs.Inside.{inside, value_inside}
use Rattle.meaning.proofs.Told.{cut}

-- the name and the value of the text s
abbrev pub ext_name : List ℕ → List ℕ
ext_name s = take (before 61 s) s

abbrev pub ext_value : List ℕ → Option (List ℕ)
ext_value s = cond (ltb (before 61 s) (length s)) (Some (drop (before 61 s + 1) s)) None

pub ext_text : (s : List ℕ) → ext_name s ++ value_text (ext_value s) ≡ s
ext_text s =
    by_bool (ltb (before 61 s) (length s)) (λ e. simp e (cut 61 s (ltb-true (before 61 s) (length s) e)).whole)
    (λ e. simp e (append-nil (ext_name s) ∙ take_all (before 61 s) s (ltb-false (before 61 s) (length s) e)))

-- their places, where s starts at the place `at` of a value
module _ (at : ℕ) (s : List ℕ) where
  abbrev pub name_place : Place
  name_place = place at (before 61 s)

  abbrev pub value_place : Option Place
  value_place = cond (ltb (before 61 s) (length s)) (Some (place (at + (before 61 s + 1)) (length s - (before 61 s + 1)))) None

  pub ext_made : {A : Type 0} (make : Place → Option Place → A) (k : ℕ) (e : A) → extension_of make k at s ≡ Ok e → e ≡ make name_place value_place
  unfolding extension_of
  ext_made make k e h = by_bool (eqb (before 61 s) 0) (λ z. clash (cc (simp z at h))) (λ z. cc (simp z at h))

  -- over a value w in which s stands from `at` to the end
  value_means_lem : (w : List ℕ) → drop at w ≡ s → value_means w value_place ≡ ext_value s
  unfolding bytes_at
  value_means_lem w q =
      by_bool (ltb (before 61 s) (length s)) (λ e. simp e (rw (← drop-drop (before 61 s + 1) at w, q, rest_is))) (λ e. simp e)

  -- an attribute gives what an extension means by the bytes of its name and of its value
  module _ {A M : Type 0} (make : Place → Option Place → A) (means : List ℕ → A → M) (ext : List ℕ → Option (List ℕ) → M)
      (is : (w : List ℕ) (n : Place) (x : Option Place) → means w (make n x) ≡ ext (bytes_at n w) (value_means w x)) where
    pub ext_means : (k : ℕ) (e : A) → extension_of make k at s ≡ Ok e → (w : List ℕ) → drop at w ≡ s → means w e ≡ ext (ext_name s) (ext_value s)
    unfolding bytes_at
    ext_means k e h w q = rw (ext_made make k e h) (is w name_place value_place ∙ rw (q, value_means_lem w q))

  pub ext_inside : (v : List ℕ) → at + length s ≤ length v → (inside v name_place && value_inside v value_place) ≡ true
  ext_inside v h =
      both (le-leb (at + before 61 s) (length v) (omega (arith, before_le 61 s)))
      (by_bool (ltb (before 61 s) (length s))
      (λ e. simp e (le-leb (at + (before 61 s + 1) + (length s - (before 61 s + 1))) (length v) (omega (arith, ltb-true (before 61 s) (length s) e))))
      (λ e. simp e))
