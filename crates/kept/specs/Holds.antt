-- A census beside its memory holds the streams of a plain list, under any rule of naming clocks: its slots are the entries of a book that stands for the
-- list. Nothing is said of the fingerprints, by which slots are only looked for.
use Rattle.std.specs.Prelude.{ℕ, ◌≤◌, ◌≡◌, List, length, get_or}
use Rattle.streams.specs.Rule.{Rule, Narrower}
use Rattle.streams.specs.Limits.{most_clocks, most_streams}
use Rattle.streams.specs.Streams.{Streams}
use Rattle.streams.specs.Book.{Book, Stands}
use Rattle.slots.specs.Slot.{streams_at, value_at}
use Rattle.counts.specs.State.{used_in}
use Rattle.counts.specs.declared.Census.{Census}

-- the book that a state is beside its memory
abbrev pub view : Census → List ℕ → Book
view c m =
    record {
      used = used_in c;
      value = value_at m;
      streams = streams_at m;
      refused = c.refused;
      total = c.total;
      domain = λ d. get_or c.domains d 0;
    }

pub record Holds (R : Rule) (c : Census) (m : List ℕ) (l : Streams) : Type 0 where
  pub stands : Stands R most_clocks (view c m) l
  pub small : length l ≤ most_streams
  pub each : length c.domains ≡ 128
  pub used : c.used ≤ most_clocks

-- a census from before: it holds the streams under a rule that told apart whatever R does, and maybe more
pub record HeldBefore (R : Rule) (c : Census) (m : List ℕ) (l : Streams) : Type 0 where
  pub rule : Rule
  pub narrower : Narrower rule R
  pub holds : Holds rule c m l
