-- Streams added to those of another slot, and two accepted values, whose records are known.
use Rattle.std.specs.Prelude.{ℕ, ◌≡◌, List}
use Rattle.clock.specs.declared.ReferenceClock.{ReferenceClock}
use Rattle.meaning.specs.Meaning.{ref_meaning}
use Rattle.slots.specs.Slot.{streams_at}
use Rattle.slots.specs.Find.{SlotOf}
use Rattle.counts.specs.State.{used_in}
use Rattle.counts.specs.Outcome.{Does}
use Rattle.counts.specs.declared.Census.{Census}
use Rattle.counts.specs.declared.Called.{Called}
use Rattle.joining.specs.Joining.{added_memory, join_clocks}

pub record Adds (m : List ℕ) (i j n : ℕ) (m' : List ℕ) : Type 0 where
  pub number : n ≡ streams_at m i
  pub memory : m' ≡ added_memory m i j

pub record JoinsClocks (c : Census) (m v : List ℕ) (from : ReferenceClock) (w : List ℕ) (into : ReferenceClock) (r : Called) (m' : List ℕ) : Type 0 where
  pub does : (i j : ℕ) → SlotOf m (ref_meaning v from) (used_in c) i → SlotOf m (ref_meaning w into) (used_in c) j → Does (join_clocks c m i from j into) c m r m'
