-- What is printed for a line, and of which kind the line is: the one link between the report and the readers and writers.
use Rattle.std.specs.Prelude.{ℕ, List, [], ◌∷◌, ◌++◌, cond, ltb, length, drop, Result, Ok, Err}
use Rattle.text.specs.Word.{word, starts}
use Rattle.number.specs.Decimal.{decimal}
use Rattle.clock.specs.declared.Refusal.{Refusal}
use Rattle.meaning.specs.ReferenceClock.{read_reference_clock}
use Rattle.meaning.specs.MediaClock.{read_media_clock_source}
use Rattle.meaning.specs.Text.{reference_clock_text, media_clock_source_text}
use Rattle.report.specs.declared.Kind.{Kind}
use Rattle.report.specs.declared.Kind.TheVariants.{Accepted, Refused, Other, Long}
use Rattle.clock.specs.declared.ReferenceClock.{ReferenceClock}
use Rattle.mediarecord.specs.declared.MediaClockSource.{MediaClockSource}

pub record Reply : Type 0 where
  pub kind : Kind
  pub says : List ℕ

-- a text, and LF behind it
abbrev pub reply : Kind → List ℕ → Reply
reply k t = record { kind = k; says = t ++ 10 ∷ [] }

-- an accepted value: the text that is written of its record
abbrev pub ok_reply : List ℕ → Reply
ok_reply t = reply Accepted (word "ok " ++ t)

-- a refused value: the number of the refusal, its start and its length
unfoldable pub no_reply : Refusal → Reply
no_reply r = reply Refused (word "no " ++ decimal r.number ++ 32 ∷ [] ++ decimal r.place.start ++ 32 ∷ [] ++ decimal r.place.len)

abbrev pub reference_clock_reply : List ℕ → Result ReferenceClock Refusal → Reply
reference_clock_reply v (Ok c) = ok_reply (reference_clock_text v c)
reference_clock_reply v (Err r) = no_reply r

abbrev pub media_clock_source_reply : List ℕ → Result MediaClockSource Refusal → Reply
media_clock_source_reply v (Ok m) = ok_reply (media_clock_source_text v m)
media_clock_source_reply v (Err r) = no_reply r

-- the value of a ts-refclk line, and of a mediaclk line
unfoldable pub ts_refclk_reply : List ℕ → Reply
ts_refclk_reply v = reference_clock_reply v (read_reference_clock v)

unfoldable pub mediaclk_reply : List ℕ → Reply
mediaclk_reply v = media_clock_source_reply v (read_media_clock_source v)

-- a line without its end: before all else one over 4,096 bytes is long
unfoldable pub reply_to : List ℕ → Reply
reply_to l =
    cond (ltb 4096 (length l)) (reply Long (word "long"))
    (cond (starts (word "a=ts-refclk:") l) (ts_refclk_reply (drop 12 l))
    (cond (starts (word "a=mediaclk:") l) (mediaclk_reply (drop 11 l))
    (reply Other (word "--"))))
