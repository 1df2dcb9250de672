-- Counting: a stream of a clock that has a slot is one more there, the first of a clock takes the first free slot, and a refused value has a count alone.
use Rattle.std.specs.Prelude.{ℕ, ◌+◌, ◌*◌, max, ◌≡◌, List, cond, ltb, leb, length, Result, Ok, Err}
use Rattle.std.proofs.lemmas.List.Edits.{sets}
use Rattle.clock.specs.declared.ReferenceClock.{ReferenceClock}
use Rattle.meaning.specs.ReferenceClock.{read_reference_clock}
use Rattle.meaning.specs.Meaning.{ref_meaning}
use Rattle.equal.specs.Fingerprint.{fingerprint, host_print}
use Rattle.streams.specs.Limits.{least_memory, most_clocks, most_streams}
use Rattle.streams.specs.declared.Uncounted.TheVariants.{NoMemory, TotalFull, ClocksFull}
use Rattle.naming.specs.Domain.{or_none, domain_in}
use Rattle.quads.specs.Quad.{quad}
use Rattle.slots.specs.Slot.{slot_size, slot_bytes, streams_at, free_slot}
use Rattle.slots.specs.Find.{SlotFor}
use Rattle.counts.specs.State.{census, used_in, plus, one_more}
use Rattle.counts.specs.Outcome.{Outcome, leaves, refuses, Does}
use Rattle.counts.specs.declared.Census.{Census}
use Rattle.counts.specs.declared.Called.{Called}
use Rattle.clock.specs.declared.Refusal.{Refusal}

-- a stream of a refused value
abbrev pub one_refused_more : Census → Census
one_refused_more c = census c.used (plus c.total 1) (plus c.refused 1) c.domains

-- a stream of the clock k, which has the slot i
unfoldable pub count_known : Census → List ℕ → ReferenceClock → ℕ → Outcome
count_known c m k i = leaves (one_more (or_none (domain_in k)) c) (sets m (i * slot_size) (quad (plus (streams_at m i) 1)))

-- the first stream of the clock k, by the value v: it takes the first free slot
unfoldable pub count_new : Census → List ℕ → List ℕ → ReferenceClock → Outcome
count_new c m v k =
    let i = free_slot m (used_in c) in
    let after = one_more (or_none (domain_in k)) c in
    cond (leb most_clocks i) (refuses ClocksFull)
    (leaves (census (max (used_in c) (i + 1)) after.total after.refused after.domains)
    (sets m (i * slot_size) (slot_bytes 1 (fingerprint host_print (ref_meaning v k)) v)))

unfoldable pub count_clock : Census → List ℕ → List ℕ → ReferenceClock → ℕ → Outcome
count_clock c m v k i = cond (ltb i (used_in c)) (count_known c m k i) (count_new c m v k)

abbrev pub count_read : Census → List ℕ → List ℕ → ℕ → Result ReferenceClock Refusal → Outcome
count_read c m v i (Ok k) = count_clock c m v k i
count_read c m v i (Err r) = leaves (one_refused_more c) m

-- a stream of the value v, where the slot of its clock is i
unfoldable pub count_outcome : Census → List ℕ → List ℕ → ℕ → Outcome
count_outcome c m v i =
    cond (ltb (length m) least_memory) (refuses NoMemory)
    (cond (leb most_streams c.total) (refuses TotalFull) (count_read c m v i (read_reference_clock v)))

pub record Counts (c : Census) (m v : List ℕ) (r : Called) (m' : List ℕ) : Type 0 where
  pub does : (i : ℕ) → SlotFor m v (used_in c) i → Does (count_outcome c m v i) c m r m'

-- no second answer, and no second memory, meets it. `proofs/Settled.antt` proves it
abbrev pub CountsSettled : Type 0
CountsSettled =
    (c : Census) (m v : List ℕ) (q r : Called) (m₁ m₂ : List ℕ) → Counts c m v q m₁ → Counts c m v r m₂ → (q ≡ r) × (m₁ ≡ m₂)
