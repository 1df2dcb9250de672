-- The report of a text: what is printed for each line, and then the totals.
use Rattle.std.specs.Prelude.{ℕ, ◌+◌, List, [], ◌∷◌, ◌++◌}
use Rattle.text.specs.Word.{word}
use Rattle.number.specs.Decimal.{decimal}
use Rattle.report.specs.Lines.{lines_of}
use Rattle.report.specs.Reply.{reply_to}
use Rattle.report.specs.declared.Kind.{Kind}
use Rattle.report.specs.declared.Kind.TheVariants.{Accepted, Refused, Other, Long}
use Rattle.report.specs.declared.Totals.{Totals}

-- what is printed for lines, one after another
unfoldable pub printed : List (List ℕ) → List ℕ
printed [] = []
printed (l ∷ ls) = (reply_to l).says ++ printed ls

abbrev pub totals : ℕ → ℕ → ℕ → ℕ → ℕ → Totals
totals l o n t g = record { lines = l; ok = o; no = n; other = t; long = g }

-- the totals of one line
abbrev pub totals_of_one : Kind → Totals
totals_of_one Accepted = totals 1 1 0 0 0
totals_of_one Refused = totals 1 0 1 0 0
totals_of_one Other = totals 1 0 0 1 0
totals_of_one Long = totals 1 0 0 0 1

infixl 60 ◌plus◌
abbrev pub ◌plus◌ : Totals → Totals → Totals
a plus b = totals (a.lines + b.lines) (a.ok + b.ok) (a.no + b.no) (a.other + b.other) (a.long + b.long)

-- the totals of lines
unfoldable pub totals_of : List (List ℕ) → Totals
totals_of [] = totals 0 0 0 0 0
totals_of (l ∷ ls) = totals_of_one (reply_to l).kind plus totals_of ls

-- the line of the totals
unfoldable pub totals_text : Totals → List ℕ
totals_text t =
    word "lines " ++ decimal t.lines ++ word " ok " ++ decimal t.ok ++ word " no " ++ decimal t.no
    ++ word " other " ++ decimal t.other ++ word " long " ++ decimal t.long ++ 10 ∷ []

-- all that is printed for a text
unfoldable pub report : List ℕ → List ℕ
report s = printed (lines_of s) ++ totals_text (totals_of (lines_of s))
