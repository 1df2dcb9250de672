-- A stream of an accepted value, whose record is known.
use Rattle.std.specs.Prelude.{ℕ, List}
use Rattle.clock.specs.declared.ReferenceClock.{ReferenceClock}
use Rattle.meaning.specs.Meaning.{ref_meaning}
use Rattle.slots.specs.Find.{SlotOf}
use Rattle.counts.specs.State.{used_in}
use Rattle.counts.specs.Outcome.{Does}
use Rattle.counts.specs.declared.Census.{Census}
use Rattle.counts.specs.declared.Called.{Called}
use Rattle.withdrawing.specs.Withdrawing.{withdraw_clock}

pub record WithdrawsClock (c : Census) (m v : List ℕ) (k : ReferenceClock) (r : Called) (m' : List ℕ) : Type 0 where
  pub does : (i : ℕ) → SlotOf m (ref_meaning v k) (used_in c) i → Does (withdraw_clock c m k i) c m r m'
