-- Governing clock: the media-level value governs unless it has length 0, also where it is refused. The answer is a part of the value that governs:
-- the host, the GMID text, or the whole value where there is neither; of a refused value its first zero bytes.
use Rattle.std.specs.Prelude.{ℕ, ◌+◌, List, cond, eqb, length, drop, Result, Ok, Err}
use Rattle.text.specs.Find.{before}
use Rattle.text.specs.Place.{place, Lent, PartAt, OnePart}
use Rattle.text.specs.declared.Place.{Place}
use Rattle.clock.specs.declared.NtpServerAddr.{NtpServerAddr}
use Rattle.clock.specs.declared.NtpServerAddr.TheVariants as server
use Rattle.clock.specs.declared.PtpServer.{PtpServer}
use Rattle.clock.specs.declared.PtpServer.TheVariants as source
use Rattle.clock.specs.declared.ReferenceClock.{ReferenceClock}
use Rattle.clock.specs.declared.ReferenceClock.TheVariants as clock
use Rattle.meaning.specs.ReferenceClock.{read_reference_clock}
use Rattle.questions.specs.declared.Level.{Level}
use Rattle.questions.specs.declared.Level.TheVariants.{Session, Media}
use Rattle.questions.specs.declared.GoverningPlace.{GoverningPlace}
use Rattle.clock.specs.declared.Refusal.{Refusal}

-- the value v, of which c is the record
module _ (v : List ℕ) where
  abbrev pub whole : Place
  whole = place 0 (length v)

  -- the GMID stands behind the version's colon, which is the first of the value, and goes up to the next ":" or the end
  unfoldable pub gmid_place : Place
  gmid_place =
      let start = before 58 v + 1 in
      place start (before 58 (drop start v))

  abbrev pub ntp_name : NtpServerAddr → Place
  ntp_name (server.HostPort host port) = host
  ntp_name server.Traceable = whole

  abbrev pub ptp_name : PtpServer → Place
  ptp_name (source.GmidDomain g d) = gmid_place
  ptp_name source.Traceable = whole

  -- what names the clock
  unfoldable pub name_place : ReferenceClock → Place
  name_place (clock.Ntp n) = ntp_name n.server
  name_place (clock.Ptp p) = ptp_name p.server
  name_place clock.Gps = whole
  name_place clock.Gal = whole
  name_place clock.Glonass = whole
  name_place clock.Local = whole
  name_place (clock.Private p) = whole
  name_place (clock.Ext e) = whole

  abbrev pub read_place : Result ReferenceClock Refusal → Place
  read_place (Ok c) = name_place c
  read_place (Err r) = place 0 0

  unfoldable pub clock_place : Place
  clock_place = read_place (read_reference_clock v)

unfoldable pub governor : Lent → Lent → Lent
governor session media = cond (eqb (length media.now) 0) session media

-- r is that part of the value that governs, in its memory
abbrev pub Governing : Lent → Lent → Lent → Type 0
Governing session media r = PartAt (governor session media) (clock_place (governor session media).now) r

-- which of the two governs, and the place of that part in it
abbrev pub governing_at : Level → Place → GoverningPlace
governing_at l p = record { level = l; place = p }

unfoldable pub governing_place : List ℕ → List ℕ → GoverningPlace
governing_place session media = cond (eqb (length media) 0) (governing_at Session (clock_place session)) (governing_at Media (clock_place media))

-- it is the place of the part that governs. `proofs/Owed.antt` proves it
abbrev pub PlaceGoverns : Type 0
PlaceGoverns =
    (session media r : Lent) → Governing session media r → PartAt (governor session media) (governing_place session.now media.now).place r

-- so much is settled: two answers are one part of it. `proofs/Owed.antt` proves it
abbrev pub GoverningSettled : Type 0
GoverningSettled = (session media q r : Lent) → Governing session media q → Governing session media r → OnePart q r
