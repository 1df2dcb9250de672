-- One law for each way out of the crate's functions. Assumes nothing.
use Rattle.std.specs.Prelude.{Result, Ok, Err}
use Prim.Native.Nat.{ℕ, ◌+◌, ◌*◌, ◌≤◌, ◌<◌}
use mathlib.Core.Path.{◌≡◌, refl, sym, ap, ◌∙◌}
use mathlib.Core.List.{List}
use mathlib.Core.Bool.{false}
use native.Mathlib.Omega.{arith}
use native.Mathlib.Numerals.{add-one}
use lib.ListN.{length}
use lib.Seq.{sets}
use borrow.Author.Tests.{eq-eqb, ne_eqb, lt-ltb, le-ltb}
use Rattle.text.specs.Place.{Lent, PartAt}
use Rattle.clock.specs.declared.Refusal.{Refusal}
use Rattle.clock.specs.declared.ReferenceClock.{ReferenceClock}
use Rattle.meaning.specs.ReferenceClock.{read_reference_clock}
use Rattle.meaning.specs.Meaning.{ref_meaning}
use Rattle.equal.specs.Fingerprint.{fingerprint, host_print}
use Rattle.streams.specs.Limits.{least_memory}
use Rattle.streams.specs.declared.Uncounted.TheVariants.{NoMemory}
use Rattle.quads.specs.Quad.{quad}
use Rattle.slots.specs.Slot.{slot_size, streams_at, print_at, value_place, value_at, is_free}
use Rattle.slots.specs.Find.{SlotOf, SlotFor}
use Rattle.slots.proofs.Laws.{value_bytes}
use Rattle.slots.proofs.Slots.{slot_settled, slot_for}
use Rattle.counts.specs.State.{used_in}
use Rattle.counts.specs.Outcome.{done_with, refused_with}
use Rattle.counts.specs.declared.Census.{Census}
use Rattle.counts.specs.declared.Called.{Called}
use Rattle.counts.proofs.Laws.{does_refuse, does_leave}
use Rattle.joining.specs.Joining.{Moves}
use Rattle.uniting.specs.Uniting.{reprinted, United, none, more, unite_outcome, Unites}
use Rattle.uniting.specs.Private.Step.{StepFor, UnitesSlot}
use Rattle.uniting.specs.declared.Step.{Step}
use Rattle.uniting.specs.declared.Step.TheVariants.{Stay, Move, Print}
use Rattle.uniting.proofs.Slot.{print_stays, print_stored, free_slot_lem, refused_slot, known_slot, new_slot}
use Rattle.uniting.proofs.Settled.{united_settled}

-- `step_for`
pub step_free : (m : List ℕ) (i n : ℕ) → n ≡ streams_at m i → n ≡ 0 → StepFor m i Stay
step_free m i n en z = record { does = λ j s. sym (free_slot_lem m i j (eq-eqb (streams_at m i) 0 (sym en ∙ z))) }

module _ (e : Lent) (i n : ℕ) (en : n ≡ streams_at e.now i) (z : n ≡ 0 → ⊥) (w : Lent) (ew : PartAt e (value_place e.now i) w)
    (x : Result ReferenceClock Refusal) (ex : x ≡ read_reference_clock w.now) where
  taken : is_free e.now i ≡ false
  taken = ne_eqb (streams_at e.now i) 0 (λ y. z (en ∙ y))

  there : w.now ≡ value_at e.now i
  there = value_bytes e w i ew

  read_there : read_reference_clock (value_at e.now i) ≡ x
  read_there = ap read_reference_clock (sym there) ∙ sym ex

  pub step_refused : (q : Refusal) → x ≡ Err q → StepFor e.now i Stay
  step_refused q f = record { does = λ j s. sym (refused_slot e.now i j taken q (read_there ∙ f)) }

  module _ (k : ReferenceClock) (f : x ≡ Ok k) (j : ℕ) (s : SlotOf e.now (ref_meaning w.now k) i j) where
    same_slot : (y : ℕ) → SlotFor e.now (value_at e.now i) i y → j ≡ y
    same_slot y t = slot_settled e.now (ref_meaning (value_at e.now i) k) i j y (rw there at s) (t.named k (read_there ∙ f))

    pub step_known : j < i → StepFor e.now i (Move j)
    step_known h = record { does = λ y t. let q = same_slot y t in rw (← q) (sym (known_slot e.now i j taken k (read_there ∙ f) h)) }

    pub step_new : i ≤ j → (p : ℕ) → p ≡ fingerprint host_print (ref_meaning w.now k) → StepFor e.now i (Print p)
    step_new h p ep =
        record {
          does = λ y t.
              let q = same_slot y t in
              rw (← q)
              (ap (reprinted e.now i) (ep ∙ ap (λ (v : List ℕ). fingerprint host_print (ref_meaning v k)) there)
              ∙ sym (new_slot e.now i j taken k (read_there ∙ f) h));
        }

-- `reprint`
module _ (m : List ℕ) (i p n : ℕ) (en : n ≡ print_at m i) where
  pub reprint_stays : n ≡ p → m ≡ reprinted m i p
  reprint_stays e = sym (print_stays m i p (sym en ∙ e))

  pub reprint_stores : (n ≡ p → ⊥) → (m' : List ℕ) → m' ≡ sets m (i * slot_size + 4) (quad p) → m' ≡ reprinted m i p
  reprint_stores x m' e = e ∙ sym (print_stored m i p (λ y. x (en ∙ y)))

-- `unite_slot`
module _ (m : List ℕ) (i : ℕ) (s : Step) (t : StepFor m i s) where
  pub slot_stays : s ≡ Stay → UnitesSlot m i m
  slot_stays e = record { does = λ j q. rw e at (t.does j q) }

  pub slot_moves : (j : ℕ) → s ≡ Move j → (n : ℕ) (m' : List ℕ) → Moves m i j n m' → UnitesSlot m i m'
  slot_moves j e n m' w = record { does = λ y q. w.memory ∙ rw e at (t.does y q) }

  pub slot_prints : (p : ℕ) → s ≡ Print p → (m' : List ℕ) → m' ≡ reprinted m i p → UnitesSlot m i m'
  slot_prints p e m' w = record { does = λ y q. w ∙ rw e at (t.does y q) }

-- `unite_slots`
pub record UnitedTo (m : List ℕ) (used : ℕ) (m₁ : List ℕ) (i : ℕ) : Type 0 where
  pub within : i ≤ used
  pub so_far : United m i m₁
  pub size : length m₁ ≡ length m

pub unite_start : (m : List ℕ) (used : ℕ) → UnitedTo m used m 0
unite_start m used = record { within = omega arith; so_far = none; size = refl }

module _ (m : List ℕ) (used : ℕ) (m₁ : List ℕ) (i : ℕ) (t : UnitedTo m used m₁ i) where
  pub unite_end : used ≤ i → United m used m₁
  unite_end h = let e : i ≡ used = omega (arith, t.within) in rw e at t.so_far

  pub unite_turn : i < used → (m₂ : List ℕ) → UnitesSlot m₁ i m₂ → length m₂ ≡ length m₁ → UnitedTo m used m₂ (i + 1)
  unite_turn h m₂ w z =
      let s = slot_for m₁ (value_at m₁ i) i in
      record {
        within = omega arith;
        so_far = rw (w.does s.0 s.1, add-one) (more i s.0 m₁ t.so_far s.1);
        size = z ∙ t.size;
      }

-- `unite`
module _ (c : Census) (m : List ℕ) where
  pub unite_short : length m < least_memory → (r : Called) → r ≡ refused_with c NoMemory → Unites c m r m
  unfolding unite_outcome
  unite_short h r e = record { does = λ m₁ u. does_refuse (simp (lt-ltb (length m) least_memory h)) e }

  pub unite_done : least_memory ≤ length m → (n : ℕ) → n ≡ used_in c → (m' : List ℕ) → United m n m' → (r : Called) → r ≡ done_with c → Unites c m r m'
  unfolding unite_outcome
  unite_done h n en m' w r e =
      record {
        does = λ m₁ u. does_leave (simp (le-ltb (length m) least_memory h)) e (united_settled m (used_in c) m' m₁ (rw en at w) u);
      }

pub ruleset laws = (
  step_free,
  step_refused,
  step_known,
  step_new,
  reprint_stays,
  reprint_stores,
  slot_stays,
  slot_moves,
  slot_prints,
  unite_start,
  unite_end,
  unite_turn,
  unite_short,
  unite_done,
)
