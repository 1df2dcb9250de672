-- Uniting: the clocks of a census that are one are joined. The used slots are gone over in order. A slot whose clock is that of a slot before it gives its
-- streams to that one, and is free then; any other gets the fingerprint of today's rule. Free slots and refused values are passed over.
use Rattle.std.specs.Prelude.{ℕ, suc, ◌+◌, ◌*◌, ◌<◌, ◌≡◌, List, cond, eqb, ltb, length, Result, Ok, Err}
use Rattle.std.proofs.lemmas.List.Edits.{sets}
use Rattle.meaning.specs.ReferenceClock.{read_reference_clock}
use Rattle.meaning.specs.Meaning.{ref_meaning}
use Rattle.equal.specs.Fingerprint.{fingerprint, host_print}
use Rattle.streams.specs.Limits.{least_memory}
use Rattle.streams.specs.declared.Uncounted.{Uncounted}
use Rattle.streams.specs.declared.Uncounted.TheVariants.{NoMemory}
use Rattle.quads.specs.Quad.{quad}
use Rattle.slots.specs.Slot.{slot_size, print_at, value_at, is_free}
use Rattle.slots.specs.Find.{SlotFor}
use Rattle.counts.specs.State.{used_in}
use Rattle.counts.specs.Outcome.{Outcome, leaves, refuses, Does}
use Rattle.counts.specs.declared.Census.{Census}
use Rattle.counts.specs.declared.Called.{Called}
use Rattle.joining.specs.Joining.{joined_memory}
use Rattle.clock.specs.declared.ReferenceClock.{ReferenceClock}
use Rattle.clock.specs.declared.Refusal.{Refusal}

-- the memory m in which the slot i has the fingerprint p: nothing is stored where it has it already
unfoldable pub reprinted : List ℕ → ℕ → ℕ → List ℕ
reprinted m i p = cond (eqb (print_at m i) p) m (sets m (i * slot_size + 4) (quad p))

-- the slot i with streams of a value that was read, where j is the first slot before i of the same clock, or i
abbrev pub united_read : List ℕ → ℕ → ℕ → Result ReferenceClock Refusal → List ℕ
united_read m i j (Ok k) = cond (ltb j i) (joined_memory m i j) (reprinted m i (fingerprint host_print (ref_meaning (value_at m i) k)))
united_read m i j (Err r) = m

unfoldable pub united_slot : List ℕ → ℕ → ℕ → List ℕ
united_slot m i j = cond (is_free m i) m (united_read m i j (read_reference_clock (value_at m i)))

-- the memory after the first n slots, one after another
pub data United (m : List ℕ) : ℕ → List ℕ → Type 0 where
  none : United m 0 m
  more : (n j : ℕ) (m₁ : List ℕ) → United m n m₁ → SlotFor m₁ (value_at m₁ n) n j → United m (suc n) (united_slot m₁ n j)

-- the census by value stays as it is: a clock has one domain number
unfoldable pub unite_outcome : Census → List ℕ → List ℕ → Outcome
unite_outcome c m m₁ = cond (ltb (length m) least_memory) (refuses NoMemory) (leaves c m₁)

pub record Unites (c : Census) (m : List ℕ) (r : Called) (m' : List ℕ) : Type 0 where
  pub does : (m₁ : List ℕ) → United m (used_in c) m₁ → Does (unite_outcome c m m₁) c m r m'

-- one that is refused is so for want of memory alone, and changes nothing. `proofs/Settled.antt` proves it
pub record UnitesNothing (c : Census) (m : List ℕ) (r : Called) (m' : List ℕ) (why : Uncounted) : Type 0 where
  pub reason : why ≡ NoMemory
  pub short : length m < least_memory
  pub census : r.census ≡ c
  pub memory : m' ≡ m

abbrev pub RefusedUnitesNothing : Type 0
RefusedUnitesNothing =
    (c : Census) (m : List ℕ) (r : Called) (m' : List ℕ) (why : Uncounted) → Unites c m r m' → r.verdict ≡ Err why
    → UnitesNothing c m r m' why

-- there always is such a memory, and no second; so no second answer meets it. `proofs/Settled.antt` proves each
abbrev pub UnitedThere : Type 0
UnitedThere = (m : List ℕ) (n : ℕ) → (m₁ : List ℕ) × United m n m₁

abbrev pub UnitedSettled : Type 0
UnitedSettled = (m : List ℕ) (n : ℕ) (m₁ m₂ : List ℕ) → United m n m₁ → United m n m₂ → m₁ ≡ m₂

abbrev pub UnitesSettled : Type 0
UnitesSettled = (c : Census) (m : List ℕ) (q r : Called) (m₁ m₂ : List ℕ) → Unites c m q m₁ → Unites c m r m₂ → (q ≡ r) × (m₁ ≡ m₂)
