-- One law for each way out of the crate's functions. Assumes nothing.
use Rattle.std.specs.Prelude.{Result, Ok, Err}
use Prim.Native.Nat.{ℕ, ◌≤◌, ◌<◌}
use mathlib.Core.Path.{◌≡◌, refl, sym, ap, ◌∙◌}
use mathlib.Core.List.{List}
use lib.Dec.{ltb}
use lib.ListN.{length}
use borrow.Author.Tests.{lt-ltb, le-ltb}
use Rattle.clock.specs.declared.Refusal.{Refusal}
use Rattle.clock.specs.declared.ReferenceClock.{ReferenceClock}
use Rattle.meaning.specs.ReferenceClock.{read_reference_clock}
use Rattle.meaning.specs.Meaning.{ref_meaning}
use Rattle.streams.specs.Limits.{least_memory}
use Rattle.streams.specs.declared.Uncounted.TheVariants.{NoMemory}
use Rattle.slots.specs.Slot.{streams_at, taken_slots, stream_sum}
use Rattle.slots.specs.Find.{SlotOf}
use Rattle.slots.proofs.Slots.{slot_settled}
use Rattle.counts.specs.State.{used_in}
use Rattle.counts.specs.declared.Census.{Census}
use Rattle.asking.specs.Asking.{streams_in, streams_read, asked, AsksStreams}
use Rattle.asking.specs.Private.Clock.{AsksClock}

-- `streams_of_clock`
module _ (c : Census) (m v : List ℕ) (k : ReferenceClock) (u : ℕ) (eu : u ≡ used_in c) (i : ℕ) (s : SlotOf m (ref_meaning v k) u i) where
  is_slot : (j : ℕ) → SlotOf m (ref_meaning v k) (used_in c) j → j ≡ i
  is_slot j t = slot_settled m (ref_meaning v k) u j i (rw (← eu) at t) s

  pub ask_there : i < u → (n : ℕ) → n ≡ streams_at m i → AsksClock c m v k n
  unfolding streams_in
  ask_there h n e = record { is = λ j t. let q = is_slot j t in rw q (e ∙ sym (simp (← eu, lt-ltb i u h))) }

  pub ask_none : u ≤ i → AsksClock c m v k 0
  unfolding streams_in
  ask_none h = record { is = λ j t. let q = is_slot j t in rw q (sym (simp (← eu, le-ltb i u h))) }

-- `streams_of`
module _ (c : Census) (m v : List ℕ) where
  pub ask_short : length m < least_memory → AsksStreams c m v (Err NoMemory)
  ask_short h = record { is = λ i s. simp (lt-ltb (length m) least_memory h) }

  module _ (h : least_memory ≤ length m) (x : Result ReferenceClock Refusal) (ex : x ≡ read_reference_clock v) where
    pub ask_refused : (q : Refusal) → x ≡ Err q → AsksStreams c m v (Ok 0)
    ask_refused q e = record { is = λ i s. simp (le-ltb (length m) least_memory h, ← ex, e) }

    pub ask_accepted : (k : ReferenceClock) → x ≡ Ok k → (n : ℕ) → AsksClock c m v k n → AsksStreams c m v (Ok n)
    ask_accepted k e n a = record { is = λ i s. simp (le-ltb (length m) least_memory h, ← ex, e) (ap Ok (a.is i (s.named k (sym ex ∙ e)))) }

-- `clocks`, `clock_sum`
pub clocks_are : (c : Census) (m : List ℕ) (u r : ℕ) → u ≡ used_in c → r ≡ taken_slots m u → r ≡ taken_slots m (used_in c)
clocks_are c m u r eu e = e ∙ ap (taken_slots m) eu

pub sum_is : (c : Census) (m : List ℕ) (u r : ℕ) → u ≡ used_in c → r ≡ stream_sum m u → r ≡ stream_sum m (used_in c)
sum_is c m u r eu e = e ∙ ap (stream_sum m) eu

pub ruleset laws = (ask_there, ask_none, ask_short, ask_refused, ask_accepted, clocks_are, sum_is)
