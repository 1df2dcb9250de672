-- Withdrawing: one stream less in the slot of the value's clock, which is free when it has none left; a refused value takes one from the refused count.
use Rattle.std.specs.Prelude.{ℕ, ◌-◌, ◌*◌, ◌≡◌, List, cond, eqb, ltb, length, Result, Ok, Err}
use Rattle.std.proofs.lemmas.List.Edits.{sets}
use Rattle.clock.specs.declared.ReferenceClock.{ReferenceClock}
use Rattle.meaning.specs.ReferenceClock.{read_reference_clock}
use Rattle.streams.specs.Limits.{least_memory}
use Rattle.streams.specs.declared.Uncounted.TheVariants.{NoMemory, NoStream}
use Rattle.naming.specs.Domain.{or_none, domain_in}
use Rattle.quads.specs.Quad.{quad}
use Rattle.slots.specs.Slot.{slot_size, streams_at}
use Rattle.slots.specs.Find.{SlotFor}
use Rattle.counts.specs.State.{census, used_in, one_less}
use Rattle.counts.specs.Outcome.{Outcome, leaves, refuses, Does}
use Rattle.counts.specs.declared.Census.{Census}
use Rattle.counts.specs.declared.Called.{Called}
use Rattle.clock.specs.declared.Refusal.{Refusal}

-- a stream of a refused value
unfoldable pub withdraw_refused : Census → List ℕ → Outcome
withdraw_refused c m =
    cond (eqb c.refused 0) (refuses NoStream) (leaves (census c.used (c.total - 1) (c.refused - 1) c.domains) m)

-- a stream of the clock k, which has the slot i
unfoldable pub withdraw_known : Census → List ℕ → ReferenceClock → ℕ → Outcome
withdraw_known c m k i = leaves (one_less (or_none (domain_in k)) c) (sets m (i * slot_size) (quad (streams_at m i - 1)))

unfoldable pub withdraw_clock : Census → List ℕ → ReferenceClock → ℕ → Outcome
withdraw_clock c m k i = cond (ltb i (used_in c)) (withdraw_known c m k i) (refuses NoStream)

abbrev pub withdraw_read : Census → List ℕ → ℕ → Result ReferenceClock Refusal → Outcome
withdraw_read c m i (Ok k) = withdraw_clock c m k i
withdraw_read c m i (Err r) = withdraw_refused c m

-- a stream of the value v, where the slot of its clock is i
unfoldable pub withdraw_outcome : Census → List ℕ → List ℕ → ℕ → Outcome
withdraw_outcome c m v i = cond (ltb (length m) least_memory) (refuses NoMemory) (withdraw_read c m i (read_reference_clock v))

pub record Withdraws (c : Census) (m v : List ℕ) (r : Called) (m' : List ℕ) : Type 0 where
  pub does : (i : ℕ) → SlotFor m v (used_in c) i → Does (withdraw_outcome c m v i) c m r m'

-- no second answer, and no second memory, meets it. `proofs/Settled.antt` proves it
abbrev pub WithdrawsSettled : Type 0
WithdrawsSettled =
    (c : Census) (m v : List ℕ) (q r : Called) (m₁ m₂ : List ℕ) → Withdraws c m v q m₁ → Withdraws c m v r m₂ → (q ≡ r) × (m₁ ≡ m₂)
