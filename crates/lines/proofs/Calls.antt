-- Calls one after another print what a reader prints that takes the same fragments, and so the report. Assumes nothing.
use Rattle.std.specs.Prelude.{Result, Ok, Err}
use Prim.Native.Nat.{ℕ, ◌+◌}
use mathlib.Core.Path.{◌≡◌, refl, sym, ap, ◌∙◌}
use mathlib.Core.List.{List, [], ◌++◌}
use mathlib.Core.Bool.{true}
use lib.Dec.{leb, ltb}
use lib.ListN.{length, take, drop}
use lib.Seq.{take_at}
use Rattle.text.proofs.Bools.{by_bool, clash}
use Rattle.report.specs.Lines.{ended_from, open_from}
use Rattle.report.specs.Report.{totals_of}
use Rattle.report.specs.Reader.{Reader, reader_of, feed_text, fed, close_text, session}
use Rattle.report.proofs.Whole.{any_cutting}
use Rattle.lines.specs.declared.State.{State}
use Rattle.lines.specs.View.{view, state_of}
use Rattle.lines.specs.Call.{Outcome, prints, refuses, feed_outcome, close_outcome, accepts, filling_of, room_of}
use Rattle.lines.specs.Calls.{Calls, last, more, PrintTheReport}
use Rattle.lines.specs.declared.Unfed.{Unfed}

-- a call that filled n bytes printed a text, which stands at the room's front
record Fills (o : Outcome) (room : List ℕ) (n : ℕ) : Type 0 where
  text : List ℕ
  is : o ≡ prints text
  accepted : accepts o (length room) ≡ true
  front : take n (room_of o room) ≡ text

abbrev bytes_of : Result ℕ Unfed → ℕ
bytes_of (Ok n) = n
bytes_of (Err why) = 0

fills : (o : Outcome) (room : List ℕ) (n : ℕ) → filling_of o (length room) ≡ Ok n → Fills o room n
unfolding filling_of room_of accepts
fills (refuses why) room n e = clash (cc)
fills (prints t) room n e =
    by_bool (leb (length t) (length room))
    (λ f.
    let k : length t ≡ n = ap bytes_of (simp f at e) in
    record {
      text = t;
      is = refl;
      accepted = f;
      front = simp f (ap (λ (j : ℕ). take j (t ++ drop (length t) room)) (sym k) ∙ take_at t (drop (length t) room) (length t) refl);
    })
    (λ f. clash (cc (simp f at e)))

abbrev text_in : Outcome → List ℕ
text_in (prints t) = t
text_in (refuses why) = []

close_is : (r : Reader) (t : List ℕ) → close_outcome r ≡ prints t → t ≡ close_text r
unfolding close_outcome
close_is r t e = by_bool r.closed (λ f. clash (cc (simp f at e))) (λ f. sym (ap text_in (simp f at e)))

feed_is : (r : Reader) (s t : List ℕ) → feed_outcome r s ≡ prints t → t ≡ feed_text r s
unfolding feed_outcome
feed_is r s t e =
    by_bool r.closed (λ f. clash (cc (simp f at e)))
    (λ f. by_bool (ltb 4294967295 (r.read + length s)) (λ g. clash (cc (simp (f, g) at e))) (λ g. sym (ap text_in (simp (f, g) at e))))

session_printed : {state : State} {memory : List ℕ} {fragments : List (List ℕ)} {printed : List ℕ} → Calls state memory fragments printed
    → printed ≡ session (view state memory) fragments
unfolding session
session_printed (last state memory room r after n w e) =
    let f = fills (close_outcome (view state memory)) room n (sym w.filling ∙ e) in
    ap (take n) w.room ∙ f.front ∙ close_is (view state memory) f.text f.is
session_printed (more state memory s room r kept after n fragments printed w e calls) =
    let f = fills (feed_outcome (view state memory) s) room n (sym w.filling ∙ e) in
    let next : view r.state kept ≡ fed (view state memory) s = simp f.accepted at w.reader in
    ap (λ (t : List ℕ). t ++ printed) (ap (take n) w.room ∙ f.front ∙ feed_is (view state memory) s f.text f.is)
    ∙ ap (λ (t : List ℕ). feed_text (view state memory) s ++ t) (session_printed calls ∙ ap (λ (q : Reader). session q fragments) next)

first : (memory : List ℕ) → view (state_of (reader_of [])) memory ≡ reader_of []
unfolding reader_of open_from ended_from totals_of
first memory = refl

pub print_the_report : PrintTheReport
print_the_report memory fragments printed h calls =
    session_printed calls ∙ ap (λ (r : Reader). session r fragments) (first memory) ∙ any_cutting fragments h
