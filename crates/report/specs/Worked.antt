-- The report of the text that the rules work out, with one space behind "+0". `proofs/Worked.antt` proves it.
use Rattle.std.specs.Prelude.{ℕ, ◌≡◌, List}
use Rattle.text.specs.Word.{word}
use Rattle.report.specs.Report.{report}

abbrev pub worked_text : List ℕ
worked_text = word "a=ts-refclk:ptp=IEEE1588-2008:00-1b-c5-ff-fe-00-0a-01:037\na=mediaclk:direct=+0 \ns=demo\na=ts-refclk:ntp=:80\n"

abbrev pub Worked : Type 0
Worked =
    report worked_text
    ≡ word "ok ptp=IEEE1588-2008:00-1B-C5-FF-FE-00-0A-01:37\nok direct=0\n--\nno 5 4 0\nlines 4 ok 2 no 1 other 1 long 0\n"
