-- The reader of lines as a state that takes a text in fragments: what it stands for, what each call prints, and what it stands for then.
use Rattle.std.specs.Prelude.{ℕ, ◌+◌, ◌%◌, ◌^◌, List, [], ◌∷◌, ◌++◌, Bool, true, false, length, take}
use Rattle.report.specs.Lines.{ended_from, open_from, last_line}
use Rattle.report.specs.Reply.{reply_to}
use Rattle.report.specs.Report.{printed, totals, totals_of_one, totals_of, totals_text}
use Rattle.report.specs.declared.Kind.{Kind}
use Rattle.report.specs.declared.Totals.{Totals}

-- What a reader stands for: the first 4,098 bytes of the open line, the totals of the lines before it, how many bytes were read, and whether the
-- text is at its end. (A line of 4,098 bytes is long whatever follows, even if its last byte is a CR that is dropped.)
pub record Reader : Type 0 where
  pub begun : List ℕ
  pub totals : Totals
  pub read : ℕ
  pub closed : Bool

-- after the text t
unfoldable pub reader_of : List ℕ → Reader
reader_of t = record { begun = take 4098 (open_from [] t); totals = totals_of (ended_from [] t); read = length t; closed = false }

-- counts have 32 bits: those of a text within the limit never wrap
abbrev pub plus32 : ℕ → ℕ → ℕ
plus32 a b = (a + b) % 2 ^ 32

abbrev pub added : Totals → Totals → Totals
added a b = totals (plus32 a.lines b.lines) (plus32 a.ok b.ok) (plus32 a.no b.no) (plus32 a.other b.other) (plus32 a.long b.long)

unfoldable pub counted : Totals → Kind → Totals
counted t k = added t (totals_of_one k)

unfoldable pub counted_all : Totals → List (List ℕ) → Totals
counted_all t [] = t
counted_all t (l ∷ ls) = counted_all (counted t (reply_to l).kind) ls

-- a fragment s: what is printed, and the reader then
abbrev pub feed_text : Reader → List ℕ → List ℕ
feed_text r s = printed (ended_from r.begun s)

unfoldable pub fed : Reader → List ℕ → Reader
fed r s =
    record {
      begun = take 4098 (open_from r.begun s);
      totals = counted_all r.totals (ended_from r.begun s);
      read = r.read + length s;
      closed = false;
    }

-- the closing call: the last line, where there is one, and the totals
unfoldable pub close_text : Reader → List ℕ
close_text r = printed (last_line r.begun) ++ totals_text (counted_all r.totals (last_line r.begun))

unfoldable pub closed : Reader → Reader
closed r = record { begun = []; totals = counted_all r.totals (last_line r.begun); read = r.read; closed = true }

-- what the calls print, one after another, for a text in fragments and the closing call
unfoldable pub session : Reader → List (List ℕ) → List ℕ
session r [] = close_text r
session r (s ∷ fragments) = feed_text r s ++ session (fed r s) fragments

-- the reader after fragments
unfoldable pub fed_all : Reader → List (List ℕ) → Reader
fed_all r [] = r
fed_all r (s ∷ fragments) = fed_all (fed r s) fragments

-- the text that was cut into fragments
unfoldable pub joined : List (List ℕ) → List ℕ
joined [] = []
joined (s ∷ fragments) = s ++ joined fragments
