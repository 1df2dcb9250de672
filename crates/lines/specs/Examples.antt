-- Which number calls owe, at the limits.
use Rattle.std.specs.Prelude.{ℕ, refl, List, [], ◌∷◌, false, Option, Some, None}
use Rattle.text.specs.Word.{word, ends_in, same}
use Rattle.text.specs.Example.{◌gives◌, Each}
use Rattle.number.specs.Decimal.{decimal, digits_in}
use Rattle.report.specs.Lines.{without_cr, ended_from, open_from, last_line}
use Rattle.report.specs.Reply.{reply_to}
use Rattle.report.specs.Report.{printed, totals, totals_text}
use Rattle.report.specs.Reader.{Reader, counted, counted_all, fed, close_text, closed}
use Rattle.lines.specs.Number.{unfed_number, first_of, owed_number}
use Rattle.lines.specs.Owed.{against_feeding, against_closing}

pub data Call : Type 0 where
  feed : Reader → List ℕ → ℕ → Call
  close : Reader → ℕ → Call

number : Call → Option ℕ
number (feed r s n) = owed_number (against_feeding r s n)
number (close r n) = owed_number (against_closing r n)

-- a reader behind so many bytes, with no open line
abbrev behind : ℕ → Reader
behind n = record { begun = []; totals = totals 0 0 0 0 0; read = n; closed = false }

abbrev at_limit : Reader
at_limit = behind 4294967295

-- 28 before 37 before 24; at the limit a fragment of no bytes is taken. `\n` prints three bytes, and the totals have 33
numbers : Each number (
    feed (closed at_limit) (word "\n") 0 gives Some 28
    ∷ feed (closed at_limit) [] 100 gives Some 28
    ∷ close (closed at_limit) 100 gives Some 28
    ∷ close (closed at_limit) 0 gives Some 28
    ∷ feed at_limit (word "\n") 0 gives Some 37
    ∷ feed at_limit (word "\n") 3 gives Some 37
    ∷ feed (behind 4294967294) (word "\n\n") 100 gives Some 37
    ∷ feed at_limit [] 0 gives None
    ∷ feed (behind 4294967294) (word "\n") 3 gives None
    ∷ feed (behind 4294967294) (word "\n") 2 gives Some 24
    ∷ feed (behind 0) (word "a\r") 0 gives None
    ∷ feed (fed (behind 0) (word "a\r")) (word "\n") 2 gives Some 24
    ∷ feed (fed (behind 0) (word "a\r")) (word "\n") 3 gives None
    ∷ close at_limit 32 gives Some 24
    ∷ close at_limit 33 gives None
    ∷ [])
unfolding number first_of unfed_number against_feeding against_closing closed fed close_text ended_from open_from last_line without_cr ends_in printed reply_to same
    counted counted_all totals_text decimal digits_in
numbers = refl
