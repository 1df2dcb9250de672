-- The statements of specs/Whole.antt hold. Assumes nothing.
use Prim.Native.Nat.{ℕ, ◌+◌, ◌^◌, ◌≤◌, ◌<◌}
use mathlib.Core.Path.{◌≡◌, refl, sym, ap, ◌∙◌}
use mathlib.Core.List.{List, [], ◌∷◌, ◌++◌, append_assoc, append-nil}
use native.Mathlib.Omega.{arith}
use lib.Dec.{eqb}
use lib.ListN.{length, take, length-append, length-take}
use Rattle.text.proofs.Bools.{by_bool}
use Rattle.report.specs.Lines.{without_cr, ended_from, open_from, last_line, lines_of}
use Rattle.report.specs.Reply.{Reply, reply_to}
use Rattle.report.specs.Report.{printed, totals_of, totals_text, report}
use Rattle.report.specs.Reader.{Reader, reader_of, counted, counted_all, feed_text, fed, fed_all, close_text, closed, session, joined}
use Rattle.report.specs.Whole.{EachCounted, TotalsAdd, LastLineWhole, FirstBytesDecide, ReaderOfMore, ReaderOfAll, AnyCutting, ClosedTotals}
use Rattle.report.specs.declared.Totals.{Totals}
use Rattle.report.proofs.Lines.{open_append, ended_append, last_whole, ended_alike, last_alike, more_alike, first_alike, open_alike}
use Rattle.report.proofs.Printed.{printed_append}
use Rattle.report.proofs.Counting.{totals_add, totals_lines, counted_on}

pub each_counted : EachCounted
each_counted = totals_lines

pub totals_sum : TotalsAdd
totals_sum ls = (totals_add ls).sum

pub last_line_whole : LastLineWhole
last_line_whole = last_whole

pub first_bytes_decide : FirstBytesDecide
first_bytes_decide l = (ended_alike (take 4098 l) l (first_alike l), last_alike (take 4098 l) l (first_alike l))

-- lines that print and count alike
record Alike (t : Totals) (a b : List (List ℕ)) : Type 0 where
  prints : printed a ≡ printed b
  counts : counted_all t a ≡ counted_all t b

alike_same : (t : Totals) (a : List (List ℕ)) → Alike t a a
alike_same t a = record { prints = refl; counts = refl }

alike_cons : {t : Totals} {a b : List (List ℕ)} (x y : List ℕ) → reply_to x ≡ reply_to y → Alike (counted t (reply_to x).kind) a b → Alike t (x ∷ a) (y ∷ b)
unfolding printed counted_all
alike_cons {t} {a} {b} x y e h =
    record {
      prints = cc (ap (λ (r : Reply). r.says) e, h.prints);
      counts = h.counts ∙ ap (λ (r : Reply). counted_all (counted t r.kind) b) e;
    }

-- of the open line the first 4,098 bytes are enough
ended_enough : (t : Totals) (p q s : List ℕ) → take 4098 p ≡ take 4098 q → Alike t (ended_from p s) (ended_from q s)
unfolding ended_from
ended_enough t p q [] h = alike_same t []
ended_enough t p q (b ∷ s) h =
    by_bool (eqb b 10)
    (λ e. simp e (alike_cons (without_cr p) (without_cr q) (ended_alike p q h) (alike_same (counted t (reply_to (without_cr p)).kind) (ended_from [] s))))
    (λ e. simp e (ended_enough t (p ++ b ∷ []) (q ++ b ∷ []) s (more_alike p q (b ∷ []) h)))

last_enough : (t : Totals) (p q : List ℕ) → take 4098 p ≡ take 4098 q → Alike t (last_line p) (last_line q)
unfolding last_line
last_enough t [] [] h = alike_same t []
last_enough t [] (b ∷ q) h = absurd (omega (arith, length-take 4098 (b ∷ q), ap length h))
last_enough t (a ∷ p) [] h = absurd (omega (arith, length-take 4098 (a ∷ p), ap length h))
last_enough t (a ∷ p) (b ∷ q) h =
    alike_cons (a ∷ p) (b ∷ q) (last_alike (a ∷ p) (b ∷ q) h) (alike_same (counted t (reply_to (a ∷ p)).kind) [])

-- there are no more lines than bytes
few_lines : (begun s : List ℕ) → length (ended_from begun s ++ last_line (open_from begun s)) ≤ length begun + length s
unfolding ended_from open_from last_line
few_lines [] [] = omega arith
few_lines (a ∷ begun) [] = omega arith
few_lines begun (b ∷ s) =
    by_bool (eqb b 10) (λ e. simp e (omega (arith, few_lines [] s)))
    (λ e. simp e (omega (arith, few_lines (begun ++ b ∷ []) s, length-append begun (b ∷ []))))

-- the reader after the text t
module _ (t : List ℕ) where
  open_cut : take 4098 (take 4098 (open_from [] t)) ≡ take 4098 (open_from [] t)
  open_cut = first_alike (open_from [] t)

  -- takes the fragment s
  module _ (s : List ℕ) where
    ended_on : ended_from [] (t ++ s) ≡ ended_from [] t ++ ended_from (open_from [] t) s
    ended_on = ended_append [] t s

    on_alike : Alike (totals_of (ended_from [] t)) (ended_from (take 4098 (open_from [] t)) s) (ended_from (open_from [] t) s)
    on_alike = ended_enough (totals_of (ended_from [] t)) (take 4098 (open_from [] t)) (open_from [] t) s open_cut

    feed_prints : printed (ended_from [] t) ++ feed_text (reader_of t) s ≡ printed (ended_from [] (t ++ s))
    unfolding reader_of
    feed_prints =
        ap (λ (x : List ℕ). printed (ended_from [] t) ++ x) on_alike.prints
        ∙ sym (ap printed ended_on ∙ printed_append (ended_from [] t) (ended_from (open_from [] t) s))

    feed_reads : length (t ++ s) ≤ 4294967295 → fed (reader_of t) s ≡ reader_of (t ++ s)
    unfolding fed reader_of
    feed_reads h =
        let few : length (ended_from [] t ++ ended_from (open_from [] t) s) < 2 ^ 32 =
        omega (arith, ap length ended_on, few_lines [] (t ++ s), length-append (ended_from [] (t ++ s)) (last_line (open_from [] (t ++ s)))) in
        cc (
          open_alike (take 4098 (open_from [] t)) (open_from [] t) s open_cut,
          open_append [] t s,
          on_alike.counts,
          counted_on (ended_from [] t) (ended_from (open_from [] t) s) few,
          ended_on,
          length-append t s,
        )

  -- or the closing call
  close_counts : length t ≤ 4294967295 → (closed (reader_of t)).totals ≡ totals_of (lines_of t)
  unfolding reader_of closed lines_of
  close_counts h =
      let a = ended_from [] t in
      (last_enough (totals_of a) (take 4098 (open_from [] t)) (open_from [] t) open_cut).counts
      ∙ counted_on a (last_line (open_from [] t)) (omega (arith, few_lines [] t))

  close_prints : length t ≤ 4294967295 → printed (ended_from [] t) ++ close_text (reader_of t) ≡ report t
  unfolding reader_of close_text closed report lines_of
  close_prints h =
      let a = ended_from [] t in
      let b = last_line (open_from [] t) in
      let e = last_enough (totals_of a) (take 4098 (open_from [] t)) (open_from [] t) open_cut in
      cc (e.prints, close_counts h, printed_append a b, append_assoc (printed a) (printed b) (totals_text (totals_of (a ++ b))))

module _ (t s : List ℕ) (fragments : List (List ℕ)) where
  joined_on : (t ++ s) ++ joined fragments ≡ t ++ (s ++ joined fragments)
  joined_on = append_assoc t s (joined fragments)

reads_on : (t : List ℕ) (fragments : List (List ℕ)) → length (t ++ joined fragments) ≤ 4294967295
    → fed_all (reader_of t) fragments ≡ reader_of (t ++ joined fragments)
unfolding fed_all joined
reads_on t [] h = rw append-nil
reads_on t (s ∷ fragments) h =
    let e = joined_on t s fragments in
    ap (λ (r : Reader). fed_all r fragments) (feed_reads t s (omega (arith, ap length e, length-append (t ++ s) (joined fragments))))
    ∙ reads_on (t ++ s) fragments (rw e h)
    ∙ ap reader_of e

prints_on : (t : List ℕ) (fragments : List (List ℕ)) → length (t ++ joined fragments) ≤ 4294967295
    → printed (ended_from [] t) ++ session (reader_of t) fragments ≡ report (t ++ joined fragments)
unfolding session joined
prints_on t [] h = rw append-nil (close_prints t (rw append-nil at h))
prints_on t (s ∷ fragments) h =
    let e = joined_on t s fragments in
    let k = feed_reads t s (omega (arith, ap length e, length-append (t ++ s) (joined fragments))) in
    sym (append_assoc (printed (ended_from [] t)) (feed_text (reader_of t) s) (session (fed (reader_of t) s) fragments))
    ∙ ap (λ (x : List ℕ). x ++ session (fed (reader_of t) s) fragments) (feed_prints t s)
    ∙ ap (λ (r : Reader). printed (ended_from [] (t ++ s)) ++ session r fragments) k
    ∙ prints_on (t ++ s) fragments (rw e h)
    ∙ ap report e

pub reader_of_more : ReaderOfMore
reader_of_more = feed_reads

pub reader_of_all : ReaderOfAll
reader_of_all fragments h = reads_on [] fragments h

pub any_cutting : AnyCutting
unfolding ended_from printed
any_cutting fragments h = prints_on [] fragments h

pub closed_totals : ClosedTotals
closed_totals fragments h =
    ap (λ (r : Reader). (closed r).totals) (reads_on [] fragments h) ∙ close_counts (joined fragments) h
