-- What holds of every report, and of every text however it is cut. `proofs/Whole.antt` proves each of these statements.
use Rattle.std.specs.Prelude.{ℕ, ◌+◌, ◌≤◌, ◌≡◌, List, [], ◌++◌, length, take}
use Rattle.report.specs.Lines.{without_cr, last_line, lines_of}
use Rattle.report.specs.Reply.{reply_to}
use Rattle.report.specs.Report.{totals_of, report}
use Rattle.report.specs.Reader.{reader_of, fed, fed_all, closed, session, joined}

-- each line is counted, and under one kind
abbrev pub EachCounted : Type 0
EachCounted = (ls : List (List ℕ)) → (totals_of ls).lines ≡ length ls

abbrev pub TotalsAdd : Type 0
TotalsAdd = (ls : List (List ℕ)) → (totals_of ls).lines ≡ (totals_of ls).ok + (totals_of ls).no + (totals_of ls).other + (totals_of ls).long

-- of the last line nothing is dropped
abbrev pub LastLineWhole : Type 0
LastLineWhole = (l : List ℕ) → joined (last_line l) ≡ l

-- of a line its first 4,098 bytes decide, whether an LF ends it or not
abbrev pub FirstBytesDecide : Type 0
FirstBytesDecide = (l : List ℕ) → (reply_to (without_cr (take 4098 l)) ≡ reply_to (without_cr l)) × (reply_to (take 4098 l) ≡ reply_to l)

-- the reader that stands for the text t stands for t and s after the fragment s
abbrev pub ReaderOfMore : Type 0
ReaderOfMore = (t s : List ℕ) → length (t ++ s) ≤ 4294967295 → fed (reader_of t) s ≡ reader_of (t ++ s)

-- however a text within the limit is cut, even between CR and LF, the reader stands for the text so far, and what the calls print, one after
-- another, is the report of the whole text
abbrev pub ReaderOfAll : Type 0
ReaderOfAll = (fragments : List (List ℕ)) → length (joined fragments) ≤ 4294967295 → fed_all (reader_of []) fragments ≡ reader_of (joined fragments)

abbrev pub AnyCutting : Type 0
AnyCutting = (fragments : List (List ℕ)) → length (joined fragments) ≤ 4294967295 → session (reader_of []) fragments ≡ report (joined fragments)

-- and the totals of the closed reader are those of the lines of the whole text: as many as it has lines, and the sum of the four kinds
abbrev pub ClosedTotals : Type 0
ClosedTotals =
    (fragments : List (List ℕ)) → length (joined fragments) ≤ 4294967295
    → (closed (fed_all (reader_of []) fragments)).totals ≡ totals_of (lines_of (joined fragments))
