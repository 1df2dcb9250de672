-- A line that is seen at once to be no clock line, and what is printed for it.
use Rattle.std.specs.Prelude.{ℕ, List, Bool, cond, false, not, ltb, length}
use Rattle.text.specs.Word.{word, starts}
use Rattle.report.specs.Reply.{Reply, reply}
use Rattle.report.specs.declared.Kind.TheVariants.{Other}

-- not long, and without the first three bytes of a clock line
unfoldable pub plain : List ℕ → Bool
plain l = cond (ltb 4096 (length l)) false (cond (starts (word "a=t") l) false (not (starts (word "a=m") l)))

abbrev pub plain_reply : Reply
plain_reply = reply Other (word "--")
