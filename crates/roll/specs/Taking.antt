-- What a line of a session text makes of a roll and of its memory.
use Rattle.std.specs.Prelude.{ℕ, ◌≡◌, List, cond, ltb, length, drop, Result, ⊤, Ok, Err, Option, Some, None}
use Rattle.text.specs.Word.{word, starts}
use Rattle.counts.specs.State.{fresh_census, plus}
use Rattle.counts.specs.declared.Census.{Census}
use Rattle.counts.specs.declared.Called.{Called}
use Rattle.counting.specs.Counting.{Counts}
use Rattle.roll.specs.declared.Roll.{Roll}
use Rattle.streams.specs.declared.Uncounted.{Uncounted}

-- the value of a ts-refclk line, which is that of a stream; a line over 4,096 bytes and any other line has none
unfoldable pub stream_of : List ℕ → Option (List ℕ)
stream_of l = cond (ltb 4096 (length l)) None (cond (starts (word "a=ts-refclk:") l) (Some (drop 12 l)) None)

abbrev pub roll : Census → ℕ → ℕ → ℕ → Roll
roll c l s u = record { census = c; lines = l; streams = s; uncounted = u }

-- before any line
unfoldable pub fresh_roll : Roll
fresh_roll = roll fresh_census 0 0 0

-- a line that is no stream: one line more
abbrev pub with_line : Roll → Roll
with_line r = roll r.census (plus r.lines 1) r.streams r.uncounted

abbrev pub uncounted_by : Result ⊤ Uncounted → ℕ
uncounted_by (Ok tt) = 0
uncounted_by (Err why) = 1

-- a stream that counting answered with q: one line and one stream more, and one uncounted more where it was refused
abbrev pub with_stream : Roll → Called → Roll
with_stream r q = roll q.census (plus r.lines 1) (plus r.streams 1) (plus r.uncounted (uncounted_by q.verdict))

-- from the roll r and the memory m, a stream of the value v leaves the roll r' and the memory m': what counting answers and leaves
pub record TakesStream (r : Roll) (m v : List ℕ) (r' : Roll) (m' : List ℕ) : Type 0 where
  pub called : Called
  pub counts : Counts r.census m v called m'
  pub is : r' ≡ with_stream r called

-- no stream changes neither the census nor the memory
abbrev pub Takes : Roll → List ℕ → Option (List ℕ) → Roll → List ℕ → Type 0
Takes r m None r' m' = (r' ≡ with_line r) × (m' ≡ m)
Takes r m (Some v) r' m' = TakesStream r m v r' m'

-- a line without its end
pub record TakesLine (r : Roll) (m l : List ℕ) (r' : Roll) (m' : List ℕ) : Type 0 where
  pub takes : Takes r m (stream_of l) r' m'

-- no second roll, and no second memory, meets it. `proofs/Settled.antt` proves it
abbrev pub TakesSettled : Type 0
TakesSettled =
    (r : Roll) (m l : List ℕ) (r₁ r₂ : Roll) (m₁ m₂ : List ℕ) → TakesLine r m l r₁ m₁ → TakesLine r m l r₂ m₂
    → (r₁ ≡ r₂) × (m₁ ≡ m₂)
