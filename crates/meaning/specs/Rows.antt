-- Values at the edges: what each reads as, and the text that is then written.
use Rattle.std.specs.Prelude.{ℕ, List, [], ◌∷◌, Option, Result, Some, None, Ok, Err}
use Rattle.text.specs.Word.{word}
use Rattle.text.specs.Place.{place}
use Rattle.text.specs.declared.Place.{Place}
use Rattle.text.specs.Example.{Example, ◌gives◌}
use Rattle.clock.specs.Refusal.{refusal}
use Rattle.clock.specs.Records.{ntp, ptp, eui64}
use Rattle.mediarecord.specs.Records.{media_clock_source, rate, direct}
use Rattle.clock.specs.declared.NtpServerAddr.TheVariants.{HostPort}
use Rattle.clock.specs.declared.PtpVersion.TheVariants as version
use Rattle.clock.specs.declared.PtpDomain.{PtpDomain}
use Rattle.clock.specs.declared.PtpDomain.TheVariants.{DomainName, DomainNumber}
use Rattle.clock.specs.declared.PtpServer.TheVariants.{GmidDomain}
use Rattle.clock.specs.declared.ReferenceClock.TheVariants as clock
use Rattle.mediarecord.specs.declared.MediaClock.TheVariants as media
use Rattle.meaning.specs.ReferenceClock.{read_reference_clock}
use Rattle.meaning.specs.MediaClock.{read_media_clock_source}
use Rattle.meaning.specs.Text.{reference_clock_text, media_clock_source_text}
use Rattle.clock.specs.declared.ReferenceClock.{ReferenceClock}
use Rattle.clock.specs.declared.Refusal.{Refusal}
use Rattle.mediarecord.specs.declared.MediaClockSource.{MediaClockSource}

-- a value of either attribute
pub data Given : Type 0 where
  ts-refclk mediaclk : List ℕ → Given

-- what is read, and the text that is written of an accepted value
pub data ReadAndWritten : Type 0 where
  reference : Result ReferenceClock Refusal → List ℕ → ReadAndWritten
  source : Result MediaClockSource Refusal → List ℕ → ReadAndWritten

abbrev pub ref_written : List ℕ → Result ReferenceClock Refusal → ReadAndWritten
ref_written v (Ok c) = reference (Ok c) (reference_clock_text v c)
ref_written v (Err r) = reference (Err r) []

abbrev pub source_written : List ℕ → Result MediaClockSource Refusal → ReadAndWritten
source_written v (Ok m) = source (Ok m) (media_clock_source_text v m)
source_written v (Err r) = source (Err r) []

abbrev pub read_and_written : Given → ReadAndWritten
read_and_written (ts-refclk v) = ref_written v (read_reference_clock v)
read_and_written (mediaclk v) = source_written v (read_media_clock_source v)

abbrev ref_no : ℕ → ℕ → ℕ → ReadAndWritten
ref_no k at n = reference (Err (refusal k at n)) []

abbrev media_no : ℕ → ℕ → ℕ → ReadAndWritten
media_no k at n = source (Err (refusal k at n)) []

abbrev ntp_as : Place → Option ℕ → List ℕ → ReadAndWritten
ntp_as host port t = reference (Ok (clock.Ntp (ntp (HostPort host port)))) t

-- a PTP source of the version "V"
abbrev ptp_as : ℕ → PtpDomain → List ℕ → ReadAndWritten
ptp_as id d t = reference (Ok (clock.Ptp (ptp (version.Ext (place 4 1)) (GmidDomain (eui64 id) (Some d))))) t

abbrev rate_as : ℕ → ℕ → List ℕ → ReadAndWritten
rate_as n d t = source (Ok (media_clock_source None (media.Direct (direct None (Some (rate n d)))))) t

-- the rows that are proved, in the order of the rules
abbrev pub edges : List (Example Given ReadAndWritten)
edges =
    ts-refclk (word "") gives ref_no 11 0 0
    ∷ ts-refclk (word "ntp=::1:8080") gives ntp_as (place 4 8) None (word "ntp=::1:8080")
    ∷ ts-refclk (word "ntp=::1:65535") gives ntp_as (place 4 3) (Some 65535) (word "ntp=[::1]:65535")
    ∷ ts-refclk (word "ntp=a:b:80") gives ntp_as (place 4 3) (Some 80) (word "ntp=[a:b]:80")
    ∷ ts-refclk (word "ntp=[a:b]:80") gives ref_no 4 4 8
    ∷ ts-refclk (word "ntp=h:+080") gives ntp_as (place 4 1) (Some 80) (word "ntp=h:80")
    ∷ ts-refclk (word "ptp=V:+1-00-00-00-00-00-00-00:127") gives ptp_as 0x0100000000000000 (DomainNumber 127) (word "ptp=V:01-00-00-00-00-00-00-00:127")
    ∷ ts-refclk (word "ptp=V:+1-00-00-00-00-00-00-00:128") gives ref_no 10 30 3
    ∷ ts-refclk (word "ptp=V:+1-00-00-00-00-00-00-00:0000000000000005") gives
    ptp_as 0x0100000000000000 (DomainName (place 30 16)) (word "ptp=V:01-00-00-00-00-00-00-00:0000000000000005")
    ∷ mediaclk (word "direct=") gives media_no 14 7 0
    ∷ mediaclk (word "directfoo") gives media_no 15 6 3
    ∷ mediaclk (word "direct rate=0/1") gives rate_as 0 1 (word "direct rate=0/1")
    ∷ mediaclk (word "direct rate=1/0") gives media_no 18 14 1
    ∷ []

-- domains: of 16 bytes a name, digits or not, and of any other length a number
abbrev pub domains : List (Example Given ReadAndWritten)
domains =
    ts-refclk (word "ptp=V:00-00-00-00-00-00-00-00:00000000000000005") gives ptp_as 0 (DomainNumber 5) (word "ptp=V:00-00-00-00-00-00-00-00:5")
    ∷ ts-refclk (word "ptp=V:00-00-00-00-00-00-00-00:domain-nmbr=0127") gives
    ptp_as 0 (DomainName (place 30 16)) (word "ptp=V:00-00-00-00-00-00-00-00:domain-nmbr=0127")
    ∷ []
