-- Demand 3, of what the two writers leave in the room: of an accepted value with 1,026 bytes of room writing succeeds, and of any two the texts
-- that stand in their rooms are equal exactly when the records are; reading such a text gives an equal record but for the one class.
-- `proofs/Demand3.antt` proves each of these statements.
use Rattle.std.specs.Prelude.{ℕ, ◌≡◌, ◌↔◌, List, length, Result, Ok}
use Rattle.clock.specs.declared.ReferenceClock.{ReferenceClock}
use Rattle.mediarecord.specs.declared.MediaClockSource.{MediaClockSource}
use Rattle.meaning.specs.Text.{reference_clock_text, media_clock_source_text}
use Rattle.meaning.specs.Inside.{reference_clock_inside, media_clock_source_inside}
use Rattle.meaning.specs.Written.{front}
use Rattle.meaning.specs.Demand3.{RefGiven, SameReferenceClock, RefReadBack, MediaGiven, SameMediaClockSource, MediaReadBack}
use Rattle.writing.specs.Writes.{Writes}
use Rattle.clock.specs.declared.WriteRefusal.{WriteRefusal}

-- a call of the writer that was given v, read as the record, and room enough: its answer and the room after it
pub record RefCall (v : List ℕ) (c : ReferenceClock) (answer : Result ℕ WriteRefusal) (after : List ℕ) : Type 0 where
  pub room : List ℕ
  pub given : RefGiven v c room
  pub writes : Writes v (reference_clock_inside v c) (reference_clock_text v c) room answer after

pub record MediaCall (v : List ℕ) (m : MediaClockSource) (answer : Result ℕ WriteRefusal) (after : List ℕ) : Type 0 where
  pub room : List ℕ
  pub given : MediaGiven v m room
  pub writes : Writes v (media_clock_source_inside v m) (media_clock_source_text v m) room answer after

abbrev pub RefSucceeds : Type 0
RefSucceeds =
    (v : List ℕ) (c : ReferenceClock) (answer : Result ℕ WriteRefusal) (after : List ℕ) → RefCall v c answer after
    → answer ≡ Ok (length (front answer after))

abbrev pub MediaSucceeds : Type 0
MediaSucceeds =
    (v : List ℕ) (m : MediaClockSource) (answer : Result ℕ WriteRefusal) (after : List ℕ) → MediaCall v m answer after
    → answer ≡ Ok (length (front answer after))

abbrev pub RefLeftReads : Type 0
RefLeftReads =
    (v : List ℕ) (c : ReferenceClock) (answer : Result ℕ WriteRefusal) (after : List ℕ) → RefCall v c answer after → RefReadBack v c (front answer after)

abbrev pub MediaLeftReads : Type 0
MediaLeftReads =
    (v : List ℕ) (m : MediaClockSource) (answer : Result ℕ WriteRefusal) (after : List ℕ) → MediaCall v m answer after → MediaReadBack v m (front answer after)

abbrev pub RefLeft : Type 0
RefLeft =
    (v w : List ℕ) (c d : ReferenceClock) (answer other : Result ℕ WriteRefusal) (after later : List ℕ) → RefCall v c answer after → RefCall w d other later
    → (front answer after ≡ front other later) ↔ SameReferenceClock v c w d

abbrev pub MediaLeft : Type 0
MediaLeft =
    (v w : List ℕ) (m n : MediaClockSource) (answer other : Result ℕ WriteRefusal) (after later : List ℕ) → MediaCall v m answer after → MediaCall w n other later
    → (front answer after ≡ front other later) ↔ SameMediaClockSource v m w n
