-- The streams of a clock whose record is known.
use Rattle.std.specs.Prelude.{ℕ, ◌≡◌, List}
use Rattle.clock.specs.declared.ReferenceClock.{ReferenceClock}
use Rattle.meaning.specs.Meaning.{ref_meaning}
use Rattle.slots.specs.Find.{SlotOf}
use Rattle.counts.specs.State.{used_in}
use Rattle.counts.specs.declared.Census.{Census}
use Rattle.asking.specs.Asking.{streams_in}

pub record AsksClock (c : Census) (m v : List ℕ) (k : ReferenceClock) (r : ℕ) : Type 0 where
  pub is : (i : ℕ) → SlotOf m (ref_meaning v k) (used_in c) i → r ≡ streams_in c m i
