-- A slot that a call changes, as a change of the book; and the fingerprints stay those of the values. Assumes nothing.
use Rattle.std.specs.Prelude.{Ok}
use Prim.Native.Nat.{ℕ, ◌+◌, ◌*◌, ◌≤◌, ◌<◌, max}
use mathlib.Core.Path.{◌≡◌, refl, sym, ap, ◌∙◌}
use mathlib.Core.List.{List}
use mathlib.Core.Bool.{Bool, true, false}
use native.Mathlib.Omega.{arith}
use lib.Dec.{eqb, ltb}
use lib.ListN.{length}
use lib.Seq.{sets}
use borrow.Author.Tests.{eqb-true, eqb-false, ltb-true, ltb-false}
use Rattle.text.proofs.Bools.{by_bool}
use Rattle.clock.specs.declared.ReferenceClock.{ReferenceClock}
use Rattle.meaning.specs.ReferenceClock.{read_reference_clock}
use Rattle.meaning.specs.Meaning.{ref_meaning}
use Rattle.equal.specs.Fingerprint.{fingerprint, host_print}
use Rattle.equal.proofs.Shared.{fingerprint_small}
use Rattle.streams.proofs.Book.{Altered}
use Rattle.quads.specs.Quad.{quad}
use Rattle.slots.specs.Slot.{slot_size, slot_bytes, streams_at, print_at, value_at, is_free}
use Rattle.slots.proofs.Slots.{one_record}
use Rattle.slots.proofs.Change.{Inside, other_streams, other_print, other_value, recounts_inside, recounted_streams, recounted_print, recounted_value}
use Rattle.slots.proofs.Change.{renews_inside, new_streams, new_print, new_value}
use Rattle.counts.specs.declared.Census.{Census}
use Rattle.kept.specs.Holds.{view}
use Rattle.kept.specs.Private.Keeps.{Prints}

-- a slot with the value v and the fingerprint of its clock
pub print_is : (m : List ℕ) (i : ℕ) (v : List ℕ) (k : ReferenceClock) → read_reference_clock v ≡ Ok k → value_at m i ≡ v
    → print_at m i ≡ fingerprint host_print (ref_meaning v k)
    → (d : ReferenceClock) → read_reference_clock (value_at m i) ≡ Ok d → print_at m i ≡ fingerprint host_print (ref_meaning (value_at m i) d)
print_is m i v k reads ev ep d q =
    let same : k ≡ d = one_record k d (sym reads ∙ ap read_reference_clock (sym ev) ∙ q) in
    ep ∙ ap (λ (y : ReferenceClock). fingerprint host_print (ref_meaning v y)) same
    ∙ ap (λ (w : List ℕ). fingerprint host_print (ref_meaning w d)) (sym ev)

-- what the print of a slot says is carried over to a memory in which the slot says the same
pub print_carried : (m m' : List ℕ) (j : ℕ) → print_at m' j ≡ print_at m j → value_at m' j ≡ value_at m j
    → ((k : ReferenceClock) → read_reference_clock (value_at m j) ≡ Ok k → print_at m j ≡ fingerprint host_print (ref_meaning (value_at m j) k))
    → (k : ReferenceClock) → read_reference_clock (value_at m' j) ≡ Ok k → print_at m' j ≡ fingerprint host_print (ref_meaning (value_at m' j) k)
print_carried m m' j ep ev p k e =
    ep ∙ p k (ap read_reference_clock (sym ev) ∙ e) ∙ ap (λ (v : List ℕ). fingerprint host_print (ref_meaning v k)) (sym ev)

-- a slot gets another number of streams
module _ (m : List ℕ) (i n : ℕ) (inside : i * slot_size + slot_size ≤ length m) where
  abbrev recounted : List ℕ
  recounted = sets m (i * slot_size) (quad n)

  pub recounts : (c c' : Census) → n < 4294967296 → (k : ℕ) → n ≡ k → Altered (view c m) (view c' recounted) i (value_at m i) k
  recounts c c' small k same =
      record {
        value = recounted_value m i n;
        streams = recounted_streams m i n inside small ∙ same;
        other_value = λ j h x. other_value m i (i * slot_size) (quad n) (recounts_inside m i n) j x;
        other_streams = λ j h x. other_streams m i (i * slot_size) (quad n) (recounts_inside m i n) j x;
      }

  -- where it had streams, if it is one of the first u
  pub prints_recounted : (u : ℕ) → Prints m u → (i < u → is_free m i ≡ false) → Prints recounted u
  prints_recounted u p live j g f =
      by_bool (eqb j i)
      (λ t.
      let e = eqb-true j i t in
      let h : i < u = rw e at g in
      rw e (print_carried m recounted i (recounted_print m i n) (recounted_value m i n) (p i h (live h))))
      (λ t.
      let x = eqb-false j i t in
      print_carried m recounted j (other_print m i (i * slot_size) (quad n) (recounts_inside m i n) j x)
      (other_value m i (i * slot_size) (quad n) (recounts_inside m i n) j x)
      (p j g (ap (λ (y : ℕ). eqb y 0) (sym (other_streams m i (i * slot_size) (quad n) (recounts_inside m i n) j x)) ∙ f)))

-- or becomes that of a clock
module _ (m : List ℕ) (i : ℕ) (v : List ℕ) (k : ReferenceClock) (reads : read_reference_clock v ≡ Ok k) (inside : i * slot_size + slot_size ≤ length m)
    (fits : length v ≤ 1024) where
  abbrev print : ℕ
  print = fingerprint host_print (ref_meaning v k)

  abbrev renewed : List ℕ
  renewed = sets m (i * slot_size) (slot_bytes 1 print v)

  whole : Inside i (i * slot_size) (slot_bytes 1 print v)
  whole = renews_inside m i 1 print v inside fits

  pub renews : (c c' : Census) → Altered (view c m) (view c' renewed) i v 1
  renews c c' =
      record {
        value = new_value m i 1 print v inside fits;
        streams = new_streams m i 1 print v inside fits (omega arith);
        other_value = λ j h x. other_value m i (i * slot_size) (slot_bytes 1 print v) whole j x;
        other_streams = λ j h x. other_streams m i (i * slot_size) (slot_bytes 1 print v) whole j x;
      }

  pub prints_renewed : (u u' : ℕ) → Prints m u → i ≤ u → u' ≤ max u (i + 1) → Prints renewed u'
  prints_renewed u u' p le up j g f =
      by_bool (eqb j i)
      (λ t.
      let e = eqb-true j i t in
      let ev : value_at renewed j ≡ v = ap (value_at renewed) e ∙ new_value m i 1 print v inside fits in
      let ep : print_at renewed j ≡ print = ap (print_at renewed) e ∙ new_print m i 1 print v inside fits (fingerprint_small host_print (ref_meaning v k)) in
      print_is renewed j v k reads ev ep)
      (λ t.
      let x = eqb-false j i t in
      let w : j < u = by_bool (ltb j u) (λ y. ltb-true j u y) (λ y. absurd (x (let z = ltb-false j u y in omega arith))) in
      print_carried m renewed j (other_print m i (i * slot_size) (slot_bytes 1 print v) whole j x)
      (other_value m i (i * slot_size) (slot_bytes 1 print v) whole j x)
      (p j w (ap (λ (y : ℕ). eqb y 0) (sym (other_streams m i (i * slot_size) (slot_bytes 1 print v) whole j x)) ∙ f)))
