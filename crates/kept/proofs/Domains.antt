-- The counts of domains, of which one place is altered. Assumes nothing.
use Rattle.std.specs.Prelude.{Option, Some, None}
use Prim.Native.Nat.{ℕ, ◌+◌, ◌-◌, ◌≤◌, ◌<◌, min}
use mathlib.Core.Path.{◌≡◌, refl, sym, ap, ◌∙◌}
use mathlib.Core.List.{List}
use mathlib.Core.Bool.{Bool, true, false, cond}
use native.Mathlib.Omega.{arith}
use lib.Dec.{eqb, ltb}
use lib.ListN.{length, get_or, set, length-set}
use lib.Seq.{get_or-set_same, get_or-set_other}
use borrow.Author.Tests.{eq-eqb, ne_eqb, eqb-true, eqb-false, lt-ltb}
use Rattle.text.proofs.Bools.{by_bool}
use Rattle.streams.specs.Limits.{most_streams}
use Rattle.streams.specs.Rule.{is}
use Rattle.streams.specs.Streams.{bit}
use Rattle.naming.specs.Domain.{or_none}
use Rattle.counts.specs.State.{plus, more, less}

pub is_number : (k : ℕ) → k < 128 → (o : Option ℕ) → is k o ≡ eqb (or_none o) k
is_number k h None = sym (ne_eqb 128 k (λ e. omega arith))
is_number k h (Some n) = refl

pub bit_of : (b : Bool) → cond b 1 0 ≡ bit b
bit_of true = refl
bit_of false = refl

module _ (d n k : ℕ) (ds : List ℕ) (size : length ds ≡ 128) (h : k < 128) where
  pub more_count : (d ≡ k → get_or ds k 0 + n ≤ most_streams) → get_or (more d n ds) k 0 ≡ get_or ds k 0 + cond (eqb d k) n 0
  unfolding more
  more_count b =
      by_bool (eqb d k)
      (λ t.
      let e = eqb-true d k t in
      let y = b e in
      rw e (simp (lt-ltb k 128 h, eq-eqb k k refl) (get_or-set_same ds k (plus (get_or ds k 0) n) 0 (omega arith) ∙ omega arith)))
      (λ t.
      let x = eqb-false d k t in
      by_bool (ltb d 128)
      (λ s. simp (s, t) (get_or-set_other ds d k (plus (get_or ds d 0) n) 0 (λ e. x (sym e)) ∙ omega arith))
      (λ s. simp (s, t) (omega arith)))

  pub less_count : get_or (less d n ds) k 0 ≡ get_or ds k 0 - cond (eqb d k) n 0
  unfolding less
  less_count =
      by_bool (eqb d k)
      (λ t.
      let e = eqb-true d k t in
      rw e (simp (lt-ltb k 128 h, eq-eqb k k refl) (get_or-set_same ds k (get_or ds k 0 - n) 0 (omega arith))))
      (λ t.
      let x = eqb-false d k t in
      by_bool (ltb d 128)
      (λ s. simp (s, t) (get_or-set_other ds d k (get_or ds d 0 - n) 0 (λ e. x (sym e)) ∙ omega arith))
      (λ s. simp (s, t) (omega arith)))

pub more_size : (d n : ℕ) (ds : List ℕ) → length (more d n ds) ≡ length ds
unfolding more
more_size d n ds = by_bool (ltb d 128) (λ t. simp (t, length-set)) (λ t. simp t)

pub less_size : (d n : ℕ) (ds : List ℕ) → length (less d n ds) ≡ length ds
unfolding less
less_size d n ds = by_bool (ltb d 128) (λ t. simp (t, length-set)) (λ t. simp t)
