-- The streams of a clock, asked by a value.
use Rattle.std.specs.Prelude.{ℕ, ◌≡◌, List, cond, ltb, length, Result, Ok, Err}
use Rattle.meaning.specs.ReferenceClock.{read_reference_clock}
use Rattle.streams.specs.Limits.{least_memory}
use Rattle.streams.specs.declared.Uncounted.TheVariants.{NoMemory}
use Rattle.slots.specs.Slot.{streams_at}
use Rattle.slots.specs.Find.{SlotFor}
use Rattle.counts.specs.State.{used_in}
use Rattle.counts.specs.declared.Census.{Census}
use Rattle.streams.specs.declared.Uncounted.{Uncounted}
use Rattle.clock.specs.declared.ReferenceClock.{ReferenceClock}
use Rattle.clock.specs.declared.Refusal.{Refusal}

-- 0 where the clock has no slot
unfoldable pub streams_in : Census → List ℕ → ℕ → ℕ
streams_in c m i = cond (ltb i (used_in c)) (streams_at m i) 0

abbrev pub streams_read : Census → List ℕ → ℕ → Result ReferenceClock Refusal → ℕ
streams_read c m i (Ok k) = streams_in c m i
streams_read c m i (Err r) = 0

-- too little memory is refused
abbrev pub asked : List ℕ → ℕ → Result ℕ Uncounted
asked m n = cond (ltb (length m) least_memory) (Err NoMemory) (Ok n)

-- the answer to the question by the value v
pub record AsksStreams (c : Census) (m v : List ℕ) (r : Result ℕ Uncounted) : Type 0 where
  pub is : (i : ℕ) → SlotFor m v (used_in c) i → r ≡ asked m (streams_read c m i (read_reference_clock v))

-- no second answer meets it. `proofs/Settled.antt` proves it
abbrev pub AsksSettled : Type 0
AsksSettled = (c : Census) (m v : List ℕ) (q r : Result ℕ Uncounted) → AsksStreams c m v q → AsksStreams c m v r → q ≡ r
