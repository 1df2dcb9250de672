-- What a roll owes over all lines of a text: no line and no stream is lost. `proofs/Whole.antt` proves it.
use Rattle.std.specs.Prelude.{ℕ, ◌+◌, ◌≤◌, ◌≡◌, List, [], ◌∷◌, length, Option, Some, None}
use Rattle.streams.specs.Limits.{most_streams}
use Rattle.slots.specs.Slot.{stream_sum}
use Rattle.counts.specs.State.{used_in}
use Rattle.roll.specs.Taking.{stream_of, fresh_roll, TakesLine}
use Rattle.roll.specs.declared.Roll.{Roll}

-- lines taken one after another from a fresh roll, beside memory of any contents and any length: the roll and the memory then; the last line is first
pub data Rolled : Roll → List ℕ → List (List ℕ) → Type 0 where
  fresh : (m : List ℕ) → Rolled fresh_roll m []
  more : (r : Roll) (m : List ℕ) (ls : List (List ℕ)) (l : List ℕ) (r' : Roll) (m' : List ℕ) → Rolled r m ls → TakesLine r m l r' m'
      → Rolled r' m' (l ∷ ls)

-- 1 for a line that is a stream
abbrev pub is_stream : Option (List ℕ) → ℕ
is_stream None = 0
is_stream (Some v) = 1

-- how many of the lines are streams
unfoldable pub streams_in : List (List ℕ) → ℕ
streams_in [] = 0
streams_in (l ∷ ls) = is_stream (stream_of l) + streams_in ls

pub record NoneLost (r : Roll) (m : List ℕ) (ls : List (List ℕ)) : Type 0 where
  pub lines : r.lines ≡ length ls
  pub streams : r.streams ≡ streams_in ls
  -- each stream is one of a clock, of a refused value, or one that could not be counted
  pub parts : r.streams ≡ stream_sum m (used_in r.census) + r.census.refused + r.uncounted

-- a text of at most 4,294,967,295 bytes has no more lines
abbrev pub RollSum : Type 0
RollSum = (r : Roll) (m : List ℕ) (ls : List (List ℕ)) → Rolled r m ls → length ls ≤ most_streams → NoneLost r m ls
