-- A census from before is one under today's rule once it is united: not a stream is lost, and no count by value moves. `proofs/Kept.antt` proves each of these
-- statements.
use Rattle.std.specs.Prelude.{ℕ, ◌≤◌, ◌<◌, ◌≡◌, List, false, length, Ok}
use Rattle.questions.specs.SameClock.{SameClock}
use Rattle.streams.specs.Rule.{Rule}
use Rattle.streams.specs.Limits.{least_memory}
use Rattle.streams.specs.Streams.{Streams}
use Rattle.naming.specs.ClockRule.{ClockRule, RuleBefore}
use Rattle.slots.specs.Slot.{value_at, is_free, stream_sum}
use Rattle.counts.specs.State.{used_in}
use Rattle.counts.specs.declared.Census.{Census}
use Rattle.counts.specs.declared.Called.{Called}
use Rattle.uniting.specs.Uniting.{Unites}
use Rattle.kept.specs.Holds.{Holds, HeldBefore}
use Rattle.kept.specs.Kept.{Calls, QuestionsAsked}

-- any calls leave a census that holds the streams of the list
abbrev pub CallsHold : Type 0
CallsHold =
    (R : Rule) → ClockRule R → (c : Census) (m : List ℕ) (counted withdrawn : ℕ) (l : Streams) → Calls R c m counted withdrawn l → Holds R c m l

-- and one that holds them under the rule of before, by which hosts were compared byte by byte, is a census from before
abbrev pub BeforeHeld : Type 0
BeforeHeld = (Q R : Rule) → RuleBefore Q → ClockRule R → (c : Census) (m : List ℕ) (l : Streams) → Holds Q c m l → HeldBefore R c m l

-- what uniting owes of the census c beside the memory m, which held the streams l
pub record UnitesBefore (R : Rule) (c : Census) (m : List ℕ) (l : Streams) (r : Called) (m' : List ℕ) : Type 0 where
  pub verdict : r.verdict ≡ (Ok tt)
  -- no domain's count moves, nor the refused count, nor the total
  pub census : r.census ≡ c
  -- nor the sum of the clock counts
  pub sum : stream_sum m' (used_in c) ≡ stream_sum m (used_in c)
  -- it holds under today's rule what it held, and every question is answered as the list would
  pub holds : Holds R r.census m' l
  pub asked : QuestionsAsked R r.census m' l
  -- and no two of its slots have streams of one clock
  pub apart : (i j : ℕ) → i < used_in c → j < used_in c → is_free m' i ≡ false → is_free m' j ≡ false → SameClock (value_at m' i) (value_at m' j) → i ≡ j

abbrev pub BeforeUnited : Type 0
BeforeUnited =
    (R : Rule) → ClockRule R → (c : Census) (m : List ℕ) (l : Streams) (r : Called) (m' : List ℕ) → HeldBefore R c m l → least_memory ≤ length m
    → Unites c m r m' → UnitesBefore R c m l r m'

-- a census under today's rule stays as it is, to the byte; and so does one that was united before
abbrev pub UnitedStays : Type 0
UnitedStays =
    (R : Rule) → ClockRule R → (c : Census) (m : List ℕ) (counted withdrawn : ℕ) (l : Streams) (r : Called) (m' : List ℕ)
    → Calls R c m counted withdrawn l → Unites c m r m' → (r.census ≡ c) × (m' ≡ m)
