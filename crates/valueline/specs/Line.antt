-- The line that is owed for a value of either attribute.
use Rattle.std.specs.Prelude.{ℕ, List, ◌++◌, Result, Ok, Err}
use Rattle.text.specs.Word.{word}
use Rattle.number.specs.Hex.{hex_bytes}
use Rattle.meaning.specs.ReferenceClock.{read_reference_clock}
use Rattle.meaning.specs.MediaClock.{read_media_clock_source}
use Rattle.meaning.specs.Text.{reference_clock_text, media_clock_source_text}
use Rattle.report.specs.declared.Kind.TheVariants.{Accepted}
use Rattle.report.specs.Reply.{Reply, reply, no_reply}
use Rattle.recordnotes.specs.Notation.{reference_clock_note, media_clock_source_note}
use Rattle.clock.specs.declared.ReferenceClock.{ReferenceClock}
use Rattle.clock.specs.declared.Refusal.{Refusal}
use Rattle.mediarecord.specs.declared.MediaClockSource.{MediaClockSource}

-- an accepted value: its record, and the text that is written of it, in base 16
unfoldable pub ok_line : List ℕ → List ℕ → Reply
ok_line note text = reply Accepted (word "ok " ++ note ++ word " = " ++ hex_bytes text)

-- a refused value has the line of its refusal
abbrev pub reference_clock_line : List ℕ → Result ReferenceClock Refusal → Reply
reference_clock_line v (Ok c) = ok_line (reference_clock_note c) (reference_clock_text v c)
reference_clock_line v (Err r) = no_reply r

abbrev pub media_clock_source_line : List ℕ → Result MediaClockSource Refusal → Reply
media_clock_source_line v (Ok m) = ok_line (media_clock_source_note m) (media_clock_source_text v m)
media_clock_source_line v (Err r) = no_reply r

-- the value of a ts-refclk, and of a mediaclk
unfoldable pub ts_refclk_line : List ℕ → Reply
ts_refclk_line v = reference_clock_line v (read_reference_clock v)

unfoldable pub mediaclk_line : List ℕ → Reply
mediaclk_line v = media_clock_source_line v (read_media_clock_source v)
