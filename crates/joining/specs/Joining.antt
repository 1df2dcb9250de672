-- Joining: the streams of one clock's slot are added to those of the other's, and then it has none and is free. They are counted under the other's
-- domain number from then on. A clock with streams joined into itself stays as it is.
use Rattle.std.specs.Prelude.{ℕ, ◌*◌, ◌≡◌, List, cond, eqb, ltb, length, Result, Ok, Err}
use Rattle.std.proofs.lemmas.List.Edits.{sets}
use Rattle.clock.specs.declared.ReferenceClock.{ReferenceClock}
use Rattle.meaning.specs.ReferenceClock.{read_reference_clock}
use Rattle.streams.specs.Limits.{least_memory}
use Rattle.streams.specs.declared.Uncounted.TheVariants.{NoMemory, NoStream}
use Rattle.naming.specs.Domain.{or_none, domain_in}
use Rattle.quads.specs.Quad.{quad}
use Rattle.slots.specs.Slot.{slot_size, streams_at}
use Rattle.slots.specs.Find.{SlotFor}
use Rattle.counts.specs.State.{census, used_in, plus, more, less}
use Rattle.counts.specs.Outcome.{Outcome, leaves, refuses, Does}
use Rattle.counts.specs.declared.Census.{Census}
use Rattle.counts.specs.declared.Called.{Called}
use Rattle.clock.specs.declared.Refusal.{Refusal}

-- the memory m in which the slot j has the streams of the slot i too, and then the slot i none
abbrev pub added_memory : List ℕ → ℕ → ℕ → List ℕ
added_memory m i j = sets m (j * slot_size) (quad (plus (streams_at m j) (streams_at m i)))

abbrev pub joined_memory : List ℕ → ℕ → ℕ → List ℕ
joined_memory m i j = sets (added_memory m i j) (i * slot_size) (quad 0)

-- they are moved, and n is their number
pub record Moves (m : List ℕ) (i j n : ℕ) (m' : List ℕ) : Type 0 where
  pub number : n ≡ streams_at m i
  pub memory : m' ≡ joined_memory m i j

-- the clock `from` of the slot i is joined into the clock `into` of the slot j
unfoldable pub join_slots : Census → List ℕ → ℕ → ReferenceClock → ℕ → ReferenceClock → Outcome
join_slots c m i from j into =
    let n = streams_at m i in
    cond (eqb i j) (leaves c m)
    (leaves (census c.used c.total c.refused (more (or_none (domain_in into)) n (less (or_none (domain_in from)) n c.domains))) (joined_memory m i j))

-- both must have slots
unfoldable pub join_clocks : Census → List ℕ → ℕ → ReferenceClock → ℕ → ReferenceClock → Outcome
join_clocks c m i from j into =
    cond (ltb i (used_in c)) (cond (ltb j (used_in c)) (join_slots c m i from j into) (refuses NoStream)) (refuses NoStream)

-- and be accepted
abbrev pub join_read : Census → List ℕ → ℕ → Result ReferenceClock Refusal → ℕ → Result ReferenceClock Refusal → Outcome
join_read c m i (Ok from) j (Ok into) = join_clocks c m i from j into
join_read c m i (Ok from) j (Err r) = refuses NoStream
join_read c m i (Err r) j x = refuses NoStream

-- the clock of the value v joined into that of w, where their slots are i and j
unfoldable pub join_outcome : Census → List ℕ → List ℕ → List ℕ → ℕ → ℕ → Outcome
join_outcome c m v w i j = cond (ltb (length m) least_memory) (refuses NoMemory) (join_read c m i (read_reference_clock v) j (read_reference_clock w))

pub record Joins (c : Census) (m v w : List ℕ) (r : Called) (m' : List ℕ) : Type 0 where
  pub does : (i j : ℕ) → SlotFor m v (used_in c) i → SlotFor m w (used_in c) j → Does (join_outcome c m v w i j) c m r m'

-- no second answer, and no second memory, meets it. `proofs/Settled.antt` proves it
abbrev pub JoinsSettled : Type 0
JoinsSettled =
    (c : Census) (m v w : List ℕ) (q r : Called) (m₁ m₂ : List ℕ) → Joins c m v w q m₁ → Joins c m v w r m₂ → (q ≡ r) × (m₁ ≡ m₂)
