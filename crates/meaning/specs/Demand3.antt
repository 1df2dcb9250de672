-- Demand 3. Any two accepted values of one attribute, each with 1,026 bytes of room: their written texts are equal exactly when their records are.
-- Reading a written text gives an equal record but for one class (an NTP host that holds a colon, is no IP address and has a port): there it is
-- refused, with 1 if over 1,024 bytes and else with 4. `proofs/Demand3.antt` proves each of these statements.
use Rattle.std.specs.Prelude.{ℕ, ◌+◌, ◌-◌, ◌≤◌, ◌≡◌, ◌↔◌, List, true, false, cond, ltb, length, Ok, Err}
use Rattle.clock.specs.Refusal.{refusal}
use Rattle.clock.specs.declared.ReferenceClock.{ReferenceClock}
use Rattle.mediarecord.specs.declared.MediaClockSource.{MediaClockSource}
use Rattle.meaning.specs.ReferenceClock.{read_reference_clock}
use Rattle.meaning.specs.MediaClock.{read_media_clock_source}
use Rattle.meaning.specs.Meaning.{ref_meaning, media_meaning}
use Rattle.meaning.specs.Text.{in_class}
use Rattle.meaning.specs.Inside.{reference_clock_inside, media_clock_source_inside}
use Rattle.meaning.specs.Written.{wrote_reference_clock, written_reference_clock, wrote_media_clock_source, written_media_clock_source}

-- c, over the value v, is the same record as d over the value w
abbrev pub SameReferenceClock : List ℕ → ReferenceClock → List ℕ → ReferenceClock → Type 0
SameReferenceClock v c w d = ref_meaning v c ≡ ref_meaning w d

abbrev pub SameMediaClockSource : List ℕ → MediaClockSource → List ℕ → MediaClockSource → Type 0
SameMediaClockSource v m w n = media_meaning v m ≡ media_meaning w n

-- ts-refclk: v was read as the record c, and there is room enough
module _ (v : List ℕ) (c : ReferenceClock) (room : List ℕ) where
  pub record RefGiven : Type 0 where
    pub was_read : read_reference_clock v ≡ Ok c
    pub enough : 1026 ≤ length room

  -- its places lie inside the value; writing succeeds, with a text that is at most 2 bytes longer than the value
  pub record RefWritten : Type 0 where
    pub inside : reference_clock_inside v c ≡ true
    pub succeeds : wrote_reference_clock v c (length room) ≡ Ok (length (written_reference_clock v c room))
    pub longer : length (written_reference_clock v c room) ≤ length v + 2

-- reading a text t that was written of c over v gives an equal record, or, for the class, the refusal
pub record RefReadBack (v : List ℕ) (c : ReferenceClock) (t : List ℕ) : Type 0 where
  pub same : in_class (ref_meaning v c) ≡ false
      → (d : ReferenceClock) × ((read_reference_clock t ≡ Ok d) × SameReferenceClock t d v c)
  pub class : in_class (ref_meaning v c) ≡ true
      → read_reference_clock t ≡ Err (cond (ltb 1024 (length t)) (refusal 1 1024 (length t - 1024)) (refusal 4 4 (length t - 4)))

abbrev pub RefReadsBack : Type 0
RefReadsBack = (v : List ℕ) (c : ReferenceClock) (room : List ℕ) → RefGiven v c room → RefReadBack v c (written_reference_clock v c room)

-- written texts are equal exactly when the records are
abbrev pub RefTexts : Type 0
RefTexts =
    (v w : List ℕ) (c d : ReferenceClock) (room other : List ℕ) → RefGiven v c room → RefGiven w d other
    → (written_reference_clock v c room ≡ written_reference_clock w d other) ↔ SameReferenceClock v c w d

-- mediaclk, where there is no such class
module _ (v : List ℕ) (m : MediaClockSource) (room : List ℕ) where
  pub record MediaGiven : Type 0 where
    pub was_read : read_media_clock_source v ≡ Ok m
    pub enough : 1026 ≤ length room

  pub record MediaWritten : Type 0 where
    pub inside : media_clock_source_inside v m ≡ true
    pub succeeds : wrote_media_clock_source v m (length room) ≡ Ok (length (written_media_clock_source v m room))
    pub longer : length (written_media_clock_source v m room) ≤ length v

pub record MediaReadBack (v : List ℕ) (m : MediaClockSource) (t : List ℕ) : Type 0 where
  pub same : (n : MediaClockSource) × ((read_media_clock_source t ≡ Ok n) × SameMediaClockSource t n v m)

abbrev pub MediaReadsBack : Type 0
MediaReadsBack = (v : List ℕ) (m : MediaClockSource) (room : List ℕ) → MediaGiven v m room → MediaReadBack v m (written_media_clock_source v m room)

abbrev pub MediaTexts : Type 0
MediaTexts =
    (v w : List ℕ) (m n : MediaClockSource) (room other : List ℕ) → MediaGiven v m room → MediaGiven w n other
    → (written_media_clock_source v m room ≡ written_media_clock_source w n other) ↔ SameMediaClockSource v m w n
