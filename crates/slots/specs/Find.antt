-- The slot of a clock. Which clock is said by what a record means.
use Rattle.std.specs.Prelude.{ℕ, ◌≤◌, ◌<◌, ◌≡◌, List, Ok}
use Rattle.clock.specs.declared.ReferenceClock.{ReferenceClock}
use Rattle.meaning.specs.ReferenceClock.{read_reference_clock}
use Rattle.meaning.specs.Meaning.{RefMeaning, ref_meaning}
use Rattle.equal.specs.Alike.{OneClock, hosts_alike}
use Rattle.equal.specs.Fingerprint.{fingerprint, host_print}
use Rattle.slots.specs.Slot.{streams_at, print_at, value_at}

-- the slot i has streams, the clock's fingerprint, and a value of that clock
pub record OfClock (m : List ℕ) (k : RefMeaning) (i : ℕ) : Type 0 where
  pub taken : streams_at m i ≡ 0 → ⊥
  pub print : print_at m i ≡ fingerprint host_print k
  pub clock : ReferenceClock
  pub reads : read_reference_clock (value_at m i) ≡ Ok clock
  pub one : OneClock hosts_alike k (ref_meaning (value_at m i) clock)

-- i is the first such slot among the first n, or n where there is none
pub record SlotOf (m : List ℕ) (k : RefMeaning) (n i : ℕ) : Type 0 where
  pub most : i ≤ n
  pub there : i < n → OfClock m k i
  pub none_before : (j : ℕ) → j < i → OfClock m k j → ⊥

-- the same of the clock that the value v names; of a refused value nothing is asked
pub record SlotFor (m v : List ℕ) (n i : ℕ) : Type 0 where
  pub named : (k : ReferenceClock) → read_reference_clock v ≡ Ok k → SlotOf m (ref_meaning v k) n i

-- there is one such i and no second. `proofs/Slots.antt` proves both
abbrev pub SlotThere : Type 0
SlotThere = (m : List ℕ) (k : RefMeaning) (n : ℕ) → (i : ℕ) × SlotOf m k n i

abbrev pub SlotSettled : Type 0
SlotSettled = (m : List ℕ) (k : RefMeaning) (n i j : ℕ) → SlotOf m k n i → SlotOf m k n j → i ≡ j
