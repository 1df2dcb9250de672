-- What a mediaclk value reads as: the reading rules in their order. `at` is where the text s starts in the whole value.
use Rattle.std.specs.Prelude.{ℕ, ◌+◌, List, Bool, true, false, cond, ltb, eqb, length, take, drop, Option, Result, Some, None, Ok, Err}
use Rattle.text.specs.Find.{before}
use Rattle.text.specs.Word.{word, same, starts}
use Rattle.text.specs.Place.{place}
use Rattle.eui64.specs.Eui64.{eui64_of}
use Rattle.eui64.specs.declared.BrokenRule.{BrokenRule}
use Rattle.eui64.specs.declared.BrokenRule.TheVariants.{Length, SegmentLength, SegmentDigits}
use Rattle.clock.specs.Records.{eui64}
use Rattle.mediarecord.specs.Records.{media_clock_source, media_clock_id, rate, direct, media_clock_ext}
use Rattle.clock.specs.declared.Eui64.{Eui64}
use Rattle.mediarecord.specs.declared.Direct.{Direct}
use Rattle.mediarecord.specs.declared.MediaClockId.{MediaClockId}
use Rattle.mediarecord.specs.declared.MediaClock.{MediaClock}
use Rattle.mediarecord.specs.declared.MediaClock.TheVariants as clock
use Rattle.mediarecord.specs.declared.MediaClockSource.{MediaClockSource}
use Rattle.meaning.specs.Answer.{Answer, refuse, ◌>>=◌, empty, number_at, extension_of, guarded}
use Rattle.eui64.specs.declared.Fault.{Fault}
use Rattle.clock.specs.declared.Refusal.{Refusal}
use Rattle.mediarecord.specs.declared.Rate.{Rate}

-- the largest number of 32 bits
abbrev pub most32 : ℕ
most32 = 4294967295

-- a denominator is a number, and not 0
unfoldable pub denominator_of : ℕ → List ℕ → Answer ℕ
denominator_of at s = number_at most32 18 at s >>= λ n. cond (eqb n 0) (refuse 18 at (length s)) (Ok n)

-- behind "rate=": cut at the first "/", numerator, denominator
unfoldable pub ratio_of : ℕ → List ℕ → Answer (Option Rate)
ratio_of at s =
    let i = before 47 s in
    cond (ltb i (length s))
    (number_at most32 17 at (take i s) >>= λ n.
    denominator_of (at + (i + 1)) (drop (i + 1) s) >>= λ d.
    Ok (Some (rate n d)))
    (refuse 16 at (length s))

-- what is left of a direct clock is empty or begins "rate="
unfoldable pub rate_of : ℕ → List ℕ → Answer (Option Rate)
rate_of at s =
    cond (empty s) (Ok None)
    (cond (starts (word "rate=") s) (ratio_of (at + 5) (drop 5 s)) (refuse 15 at (length s)))

-- behind "direct=": an offset up to the first space, and what is left behind that
unfoldable pub offset_of : ℕ → List ℕ → Answer Direct
offset_of at s =
    let i = before 32 s in
    number_at most32 14 at (take i s) >>= λ n.
    rate_of (at + (i + 1)) (drop (i + 1) s) >>= λ r.
    Ok (direct (Some n) r)

-- behind "direct": nothing; or "=" and an offset; or a space
unfoldable pub direct_of : ℕ → List ℕ → Answer Direct
direct_of at s =
    cond (empty s) (Ok (direct None None))
    (cond (starts (word "=") s) (offset_of (at + 1) (drop 1 s))
    (cond (starts (word " ") s) (rate_of (at + 1) (drop 1 s) >>= λ r. Ok (direct None r))
    (refuse 15 at (length s))))

-- the number of the rules for each rule that an EUI-64 can break
abbrev pub broken_number : BrokenRule → ℕ
broken_number Length = 19
broken_number SegmentLength = 20
broken_number SegmentDigits = 21

abbrev pub stream_or : ℕ → Result ℕ Fault → Answer Eui64
stream_or at (Ok n) = Ok (eui64 n)
stream_or at (Err fault) = refuse (broken_number fault.rule) (at + fault.place.start) fault.place.len

-- behind "IEEE1722=": an EUI-64
unfoldable pub stream_of : ℕ → List ℕ → Answer Eui64
stream_of at s = stream_or at (eui64_of s)

-- an extension as a clock
abbrev pub extension_media_of : ℕ → List ℕ → Answer MediaClock
extension_media_of at s = extension_of media_clock_ext 22 at s >>= λ e. Ok (clock.Ext e)

-- "sender"; anything that begins with "direct"; "IEEE1722="; else an extension
unfoldable pub media_clock_of : ℕ → List ℕ → Answer MediaClock
media_clock_of at s =
    cond (same s (word "sender")) (Ok clock.Sender)
    (cond (starts (word "direct") s) (direct_of (at + 6) (drop 6 s) >>= λ d. Ok (clock.Direct d))
    (cond (starts (word "IEEE1722=") s) (stream_of (at + 9) (drop 9 s) >>= λ g. Ok (clock.Ieee1722StreamId g))
    (extension_media_of at s)))

-- the tag must not be empty
unfoldable pub tag_of : Bool → ℕ → List ℕ → Answer MediaClockId
tag_of src at s = cond (empty s) (refuse 13 at 0) (Ok (media_clock_id src (place at (length s))))

-- "src:" sets the flag
unfoldable pub id_of : ℕ → List ℕ → Answer MediaClockId
id_of at s = cond (starts (word "src:") s) (tag_of true (at + 4) (drop 4 s)) (tag_of false at s)

-- the source of an id and the clock that is read behind it
abbrev pub with_clock : Option MediaClockId → Answer MediaClock → Answer MediaClockSource
with_clock i a = a >>= λ c. Ok (media_clock_source i c)

-- behind "id=": the id runs to the first space, then the clock
unfoldable pub tagged_of : ℕ → List ℕ → Answer MediaClockSource
tagged_of at s =
    let i = before 32 s in
    cond (ltb i (length s))
    (id_of at (take i s) >>= λ d. with_clock (Some d) (media_clock_of (at + (i + 1)) (drop (i + 1) s)))
    (refuse 12 (at + length s) 0)

unfoldable pub source_of : List ℕ → Answer MediaClockSource
source_of s =
    cond (starts (word "id=") s) (tagged_of 3 (drop 3 s))
    (with_clock None (media_clock_of 0 s))

-- the whole value
unfoldable pub media_clock_source_of : List ℕ → Answer MediaClockSource
media_clock_source_of s = guarded s (source_of s)

-- what the reader answers
unfoldable pub read_media_clock_source : List ℕ → Answer MediaClockSource
read_media_clock_source s = media_clock_source_of s
