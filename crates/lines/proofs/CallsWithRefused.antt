-- The statements of `specs/CallsWithRefused.antt`, proved: a refused call changes nothing, so that the others print what a reader prints that takes the same
-- fragments. Assumes nothing.
use Rattle.std.specs.Prelude.{Result, Ok, Err, Option, Some, None}
use Prim.Native.Nat.{ℕ}
use mathlib.Core.Path.{◌≡◌, refl, sym, ap, ◌∙◌}
use mathlib.Core.List.{List, [], ◌++◌}
use mathlib.Core.Bool.{true}
use lib.ListN.{length, take, drop}
use lib.Seq.{take_at}
use Rattle.report.specs.Lines.{ended_from, open_from}
use Rattle.report.specs.Report.{totals_of}
use Rattle.report.specs.Reader.{Reader, reader_of, feed_text, closed, session}
use Rattle.report.proofs.Whole.{any_cutting}
use Rattle.lines.specs.declared.State.{State}
use Rattle.lines.specs.declared.Fed.{Fed}
use Rattle.lines.specs.declared.Unfed.{Unfed}
use Rattle.lines.specs.View.{view, state_of}
use Rattle.lines.specs.Number.{unfed_number, number_in, first_of}
use Rattle.lines.specs.Owed.{against_feeding, against_closing, DoesAsOwed}
use Rattle.lines.specs.CallsWithRefused.{CallsWithRefused, last, more, unfed, unclosed, PrintTheReportWithRefused, Unchanged, RefusedFeedingKeeps, RefusedClosingKeeps, ClosedForGood}
use Rattle.lines.proofs.Owed.{feeding_is_owed, closing_is_owed}

abbrev bytes_of : Result ℕ Unfed → ℕ
bytes_of (Ok n) = n
bytes_of (Err why) = 0

module _ {t : List ℕ} {o : Option ℕ} {next : Reader} {kept : List ℕ} {state : State} {memory room : List ℕ} {r : Fed} {memory₁ room₁ : List ℕ}
    (w : DoesAsOwed t o next kept state memory room r memory₁ room₁) where
  -- a call that filled n bytes owed no number, and its text stands at the room's front
  none_owed : (n : ℕ) → r.filling ≡ Ok n → o ≡ None
  none_owed n e = sym w.number ∙ ap number_in e

  front : (n : ℕ) → r.filling ≡ Ok n → take n room₁ ≡ t
  front n e =
      let f = none_owed n e in
      let k : length t ≡ n = ap bytes_of (sym (w.filled f) ∙ e) in
      ap (take n) (rw f at w.room) ∙ ap (λ (j : ℕ). take j (t ++ drop (length t) room)) (sym k) ∙ take_at t (drop (length t) room) (length t) refl

  next_reader : (n : ℕ) → r.filling ≡ Ok n → view r.state memory₁ ≡ next
  next_reader n e = rw (none_owed n e) at w.reader

  -- a call that was refused owed a number, and nothing changed
  unchanged : (why : Unfed) → r.filling ≡ Err why → Unchanged state memory room r memory₁ room₁
  unchanged why e =
      let f : o ≡ Some (unfed_number why) = sym w.number ∙ ap number_in e in
      record { state = rw f at w.state; memory = rw f at w.memory; room = rw f at w.room }

pub refused_feeding_keeps : RefusedFeedingKeeps
refused_feeding_keeps state memory s room r memory₁ room₁ why w e = unchanged ((feeding_is_owed state memory s room r memory₁ room₁).0 w) why e

pub refused_closing_keeps : RefusedClosingKeeps
refused_closing_keeps state memory room r room₁ why w e = unchanged ((closing_is_owed state memory room r room₁).0 w) why e

session_printed : {state : State} {memory : List ℕ} {fragments : List (List ℕ)} {printed : List ℕ} → CallsWithRefused state memory fragments printed
    → printed ≡ session (view state memory) fragments
unfolding session
session_printed (last state memory room r after n w e) = front ((closing_is_owed state memory room r after).0 w) n e
session_printed (more state memory s room r kept after n fragments printed w e calls) =
    let d = (feeding_is_owed state memory s room r kept after).0 w in
    ap (λ (t : List ℕ). t ++ printed) (front d n e)
    ∙ ap (λ (t : List ℕ). feed_text (view state memory) s ++ t) (session_printed calls ∙ ap (λ (q : Reader). session q fragments) (next_reader d n e))
session_printed (unfed state memory s room r kept after why fragments printed w e calls) =
    let u = unchanged ((feeding_is_owed state memory s room r kept after).0 w) why e in
    session_printed calls ∙ ap (λ (q : Reader). session q fragments) (cc (u.state, u.memory))
session_printed (unclosed state memory room r after why fragments printed w e calls) =
    let u = unchanged ((closing_is_owed state memory room r after).0 w) why e in
    session_printed calls ∙ ap (λ (q : State). session (view q memory) fragments) u.state

first : (memory : List ℕ) → view (state_of (reader_of [])) memory ≡ reader_of []
unfolding reader_of open_from ended_from totals_of
first memory = refl

pub print_the_report_with_refused : PrintTheReportWithRefused
print_the_report_with_refused memory fragments printed h calls =
    session_printed calls ∙ ap (λ (r : Reader). session r fragments) (first memory) ∙ any_cutting fragments h

-- a reader that was closed owes 28, whatever is asked of it
pub closed_for_good : ClosedForGood
unfolding first_of unfed_number against_feeding against_closing closed
closed_for_good state memory room r room₁ n w e memory' s room' next memory₂ room₂ =
    let c : r.state.closed ≡ true = ap (λ (q : Reader). q.closed) (next_reader ((closing_is_owed state memory room r room₁).0 w) n e) in (
      λ x. ((feeding_is_owed r.state memory' s room' next memory₂ room₂).0 x).number ∙ simp c,
      λ x. ((closing_is_owed r.state memory' room' next room₂).0 x).number ∙ simp c,
    )
