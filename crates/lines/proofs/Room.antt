-- The statements of `specs/Room.antt`, proved: a reply has at most six bytes for each byte of its line and of the line's end. Assumes nothing.
use Prim.Native.Nat.{ℕ, ◌+◌, ◌*◌, ◌^◌, ◌≤◌, ◌<◌}
use mathlib.Core.List.{List, [], ◌∷◌, ◌++◌}
use native.Mathlib.Omega.{arith}
use lib.ListN.{length, length-append}
use borrow.Author.Tests.{le-ltb}
use Rattle.text.specs.Word.{word}
use Rattle.number.specs.Decimal.{decimal}
use Rattle.number.proofs.Written.{decimal_length}
use Rattle.report.specs.Lines.{last_line}
use Rattle.report.specs.Reply.{reply_to}
use Rattle.report.specs.Report.{printed, totals_text}
use Rattle.report.specs.Reader.{counted, counted_all, feed_text, close_text}
use Rattle.report.specs.declared.Totals.{Totals}
use Rattle.report.specs.declared.Kind.{Kind}
use Rattle.report.proofs.Bounds.{reply_bound}
use Rattle.report.proofs.Printed.{printed_bound}
use Rattle.lines.specs.Owed.{against_feeding, against_closing}
use Rattle.lines.specs.Room.{FeedingHasRoom, In32Bits, ClosingHasRoom}

pub feeding_has_room : FeedingHasRoom
unfolding against_feeding
feeding_has_room r s n h = le-ltb n (length (feed_text r s)) (omega (arith, printed_bound r.begun s))

-- counting goes on in 32 bits
counted_in : (t : Totals) (k : Kind) → In32Bits (counted t k)
unfolding counted
counted_in t k = record { lines = omega arith; ok = omega arith; no = omega arith; other = omega arith; long = omega arith }

-- a word and a number, behind what stands before
item : (s w : List ℕ) (n : ℕ) → n < 2 ^ 32 → length (s ++ w ++ decimal n) ≤ length s + length w + 10
item s w n h = omega (arith, length-append (s ++ w) (decimal n), length-append s w, decimal_length 9 n (omega arith) (omega arith))

totals_bound : (t : Totals) → In32Bits t → length (totals_text t) ≤ 78
unfolding totals_text
totals_bound t b =
    let a = word "lines " ++ decimal t.lines in
    let c = a ++ word " ok " ++ decimal t.ok in
    let d = c ++ word " no " ++ decimal t.no in
    let e = d ++ word " other " ++ decimal t.other in
    let f = e ++ word " long " ++ decimal t.long in
    omega (
      arith,
      length-append (word "lines ") (decimal t.lines),
      decimal_length 9 t.lines (omega arith) (omega (arith, b.lines)),
      item a (word " ok ") t.ok b.ok,
      item c (word " no ") t.no b.no,
      item d (word " other ") t.other b.other,
      item e (word " long ") t.long b.long,
      length-append f (10 ∷ []),
    )

-- the last line, where there is one, and the totals
close_bound : (l : List ℕ) (t : Totals) → In32Bits t → length (printed (last_line l) ++ totals_text (counted_all t (last_line l))) ≤ 6 * length l + 84
unfolding last_line printed counted_all
close_bound [] t b = omega (arith, totals_bound t b)
close_bound (x ∷ l) t b =
    let says = (reply_to (x ∷ l)).says in
    let u = counted t (reply_to (x ∷ l)).kind in
    omega (arith, length-append (says ++ []) (totals_text u), length-append says [], reply_bound (x ∷ l), totals_bound u (counted_in t (reply_to (x ∷ l)).kind))

pub closing_has_room : ClosingHasRoom
unfolding against_closing close_text
closing_has_room r n b h = le-ltb n _ (omega (arith, close_bound r.begun r.totals b))
