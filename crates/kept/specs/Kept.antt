-- The census answers as a plain list of the streams would. `proofs/Kept.antt` proves each of these statements.
use Rattle.std.specs.Prelude.{ℕ, ◌+◌, ◌≤◌, ◌<◌, ◌≡◌, List, [], length, Result, Err}
use Rattle.streams.specs.Rule.{Rule}
use Rattle.streams.specs.Limits.{limits, least_memory}
use Rattle.streams.specs.Streams.{Streams, number_of, of_clock, refused_in, in_domain, clocks_in}
use Rattle.streams.specs.Calls.{Call, count, withdraw, join, answer, after, counted_by, withdrawn_by}
use Rattle.streams.specs.declared.Uncounted.{Uncounted}
use Rattle.naming.specs.ClockRule.{ClockRule}
use Rattle.slots.specs.Slot.{taken_slots, stream_sum}
use Rattle.counts.specs.State.{fresh_census, used_in, domain_count}
use Rattle.counts.specs.declared.Census.{Census}
use Rattle.counts.specs.declared.Called.{Called}
use Rattle.counting.specs.Counting.{Counts}
use Rattle.withdrawing.specs.Withdrawing.{Withdraws}
use Rattle.joining.specs.Joining.{Joins}
use Rattle.uniting.specs.Uniting.{Unites}
use Rattle.asking.specs.Asking.{asked, AsksStreams}
use Rattle.kept.specs.Holds.{HeldBefore}

-- a call on a census beside its memory, with the result and the memory that the contract of `count`, `withdraw` or `join` gives
abbrev pub Makes : Call → Census → List ℕ → Called → List ℕ → Type 0
Makes (count v) c m = Counts c m v
Makes (withdraw v) c m = Withdraws c m v
Makes (join v w) c m = Joins c m v w

-- Calls one after another from a fresh census, beside memory of any contents and any length, or from one of before that was united, whose streams were
-- counted: the census and the memory then, how many were answered "counted" and "withdrawn", and the streams that a plain list has after the same calls
pub data Calls (R : Rule) : Census → List ℕ → ℕ → ℕ → Streams → Type 0 where
  fresh : (m : List ℕ) → Calls R fresh_census m 0 0 []
  united : (c : Census) (m : List ℕ) (l : Streams) (r : Called) (m' : List ℕ) → HeldBefore R c m l → least_memory ≤ length m → Unites c m r m'
      → Calls R r.census m' (length l) 0 l
  more : (c : Census) (m : List ℕ) (counted withdrawn : ℕ) (l : Streams) (k : Call) (r : Called) (m' : List ℕ)
      → Calls R c m counted withdrawn l → Makes k c m r m'
      → Calls R r.census m' (counted + counted_by k r.verdict) (withdrawn + withdrawn_by k r.verdict) (after R limits (length m) k l)

-- each call answers as the list does
abbrev pub AnswersAsList : Type 0
AnswersAsList =
    (R : Rule) → ClockRule R → (c : Census) (m : List ℕ) (counted withdrawn : ℕ) (l : Streams) (k : Call) (r : Called) (m' : List ℕ)
    → Calls R c m counted withdrawn l → Makes k c m r m' → r.verdict ≡ answer R limits (length m) k l

-- the clock counts and the refused count add up to the calls answered "counted" less those answered "withdrawn"
abbrev pub Sum : Type 0
Sum =
    (R : Rule) → ClockRule R → (c : Census) (m : List ℕ) (counted withdrawn : ℕ) (l : Streams) → Calls R c m counted withdrawn l
    → stream_sum m (used_in c) + c.refused + withdrawn ≡ counted

-- a refused call changes neither the census nor a byte of the memory, whatever they hold
abbrev pub RefusedChangesNothing : Type 0
RefusedChangesNothing =
    (k : Call) (c : Census) (m : List ℕ) (r : Called) (m' : List ℕ) (why : Uncounted) → Makes k c m r m' → r.verdict ≡ Err why
    → (r.census ≡ c) × (m' ≡ m)

-- every question is answered as the list would
pub record QuestionsAsked (R : Rule) (c : Census) (m : List ℕ) (l : Streams) : Type 0 where
  -- the streams of a value's clock
  pub streams : (v : List ℕ) (r : Result ℕ Uncounted) → AsksStreams c m v r → r ≡ asked m (of_clock R v l)
  -- the clocks that have streams, and their counts added up
  pub clocks : taken_slots m (used_in c) ≡ clocks_in R l
  pub clock_sum_lem : stream_sum m (used_in c) ≡ number_of R.accepted l
  -- the streams whose clock has a domain number
  pub domain : (d : ℕ) → d < 128 → domain_count c d ≡ in_domain R d l
  -- those of refused values, and all
  pub refused : c.refused ≡ refused_in R l
  pub total : c.total ≡ length l

abbrev pub QuestionsAsList : Type 0
QuestionsAsList =
    (R : Rule) → ClockRule R → (c : Census) (m : List ℕ) (counted withdrawn : ℕ) (l : Streams) → Calls R c m counted withdrawn l
    → QuestionsAsked R c m l
