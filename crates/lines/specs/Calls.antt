-- Calls one after another, from the first to the closing one. `proofs/Calls.antt` proves what they print.
use Rattle.std.specs.Prelude.{ℕ, ◌≤◌, ◌≡◌, List, [], ◌∷◌, ◌++◌, length, take, Ok}
use Rattle.report.specs.Report.{report}
use Rattle.report.specs.Reader.{reader_of, joined}
use Rattle.lines.specs.declared.State.{State}
use Rattle.lines.specs.declared.Fed.{Fed}
use Rattle.lines.specs.View.{state_of}
use Rattle.lines.specs.Call.{Feeds, Closes}

-- Each fragment is fed with a room of its own and then the text is closed, each call on the state and the memory that the one before it left; none
-- is refused. The bytes that they filled, put one after another, are the last argument.
pub data Calls : State → List ℕ → List (List ℕ) → List ℕ → Type 0 where
  last : (state : State) (memory room : List ℕ) (r : Fed) (after : List ℕ) (n : ℕ)
      → Closes state memory room r after → r.filling ≡ Ok n → Calls state memory [] (take n after)
  more : (state : State) (memory s room : List ℕ) (r : Fed) (kept after : List ℕ) (n : ℕ) (fragments : List (List ℕ)) (printed : List ℕ)
      → Feeds state memory s room r kept after → r.filling ≡ Ok n → Calls r.state kept fragments printed
      → Calls state memory (s ∷ fragments) (take n after ++ printed)

-- however a text within the limit is cut, the calls print its report; the memory may hold anything at the start
abbrev pub PrintTheReport : Type 0
PrintTheReport =
    (memory : List ℕ) (fragments : List (List ℕ)) (printed : List ℕ) → length (joined fragments) ≤ 4294967295
    → Calls (state_of (reader_of [])) memory fragments printed → printed ≡ report (joined fragments)
