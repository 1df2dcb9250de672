-- What becomes of one slot. Assumes nothing.
use Rattle.std.specs.Prelude.{Ok, Err}
use Prim.Native.Nat.{ℕ, ◌+◌, ◌*◌, ◌≤◌, ◌<◌}
use mathlib.Core.Path.{◌≡◌}
use mathlib.Core.List.{List}
use mathlib.Core.Bool.{true, false}
use lib.Seq.{sets}
use borrow.Author.Tests.{eq-eqb, ne_eqb, lt-ltb, le-ltb}
use Rattle.clock.specs.declared.Refusal.{Refusal}
use Rattle.clock.specs.declared.ReferenceClock.{ReferenceClock}
use Rattle.meaning.specs.ReferenceClock.{read_reference_clock}
use Rattle.meaning.specs.Meaning.{ref_meaning}
use Rattle.equal.specs.Fingerprint.{fingerprint, host_print}
use Rattle.quads.specs.Quad.{quad}
use Rattle.slots.specs.Slot.{slot_size, print_at, value_at, is_free}
use Rattle.joining.specs.Joining.{joined_memory}
use Rattle.uniting.specs.Uniting.{reprinted, united_slot}

module _ (m : List ℕ) (i p : ℕ) where
  pub print_stays : print_at m i ≡ p → reprinted m i p ≡ m
  unfolding reprinted
  print_stays e = simp (eq-eqb (print_at m i) p e)

  pub print_stored : (print_at m i ≡ p → ⊥) → reprinted m i p ≡ sets m (i * slot_size + 4) (quad p)
  unfolding reprinted
  print_stored x = simp (ne_eqb (print_at m i) p x)

module _ (m : List ℕ) (i j : ℕ) where
  pub free_slot_lem : is_free m i ≡ true → united_slot m i j ≡ m
  unfolding united_slot
  free_slot_lem f = simp f

  module _ (f : is_free m i ≡ false) where
    pub refused_slot : (q : Refusal) → read_reference_clock (value_at m i) ≡ Err q → united_slot m i j ≡ m
    unfolding united_slot
    refused_slot q e = simp (f, e)

    module _ (k : ReferenceClock) (e : read_reference_clock (value_at m i) ≡ Ok k) where
      pub known_slot : j < i → united_slot m i j ≡ joined_memory m i j
      unfolding united_slot
      known_slot h = simp (f, e, lt-ltb j i h)

      pub new_slot : i ≤ j → united_slot m i j ≡ reprinted m i (fingerprint host_print (ref_meaning (value_at m i) k))
      unfolding united_slot
      new_slot h = simp (f, e, le-ltb j i h)
