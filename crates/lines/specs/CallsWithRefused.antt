-- Calls one after another, from the first to the closing one, some of them refused. `proofs/CallsWithRefused.antt` proves the statements.
use Rattle.std.specs.Prelude.{ℕ, ◌≤◌, ◌≡◌, List, [], ◌∷◌, ◌++◌, length, take, Ok, Err, Some}
use Rattle.report.specs.Report.{report}
use Rattle.report.specs.Reader.{reader_of, joined}
use Rattle.lines.specs.declared.State.{State}
use Rattle.lines.specs.declared.Fed.{Fed}
use Rattle.lines.specs.declared.Unfed.{Unfed}
use Rattle.lines.specs.View.{state_of}
use Rattle.lines.specs.Number.{number_in}
use Rattle.lines.specs.Call.{Feeds, Closes}

-- Fragments are fed and then the text is closed, each call with a room of its own, on the state and the memory that the one before it left. The list has
-- the fragments of the calls that were done; between them any calls may have been refused. The bytes that were filled, put one after another, are the
-- last argument.
pub data CallsWithRefused : State → List ℕ → List (List ℕ) → List ℕ → Type 0 where
  last : (state : State) (memory room : List ℕ) (r : Fed) (after : List ℕ) (n : ℕ)
      → Closes state memory room r after → r.filling ≡ Ok n → CallsWithRefused state memory [] (take n after)
  more : (state : State) (memory s room : List ℕ) (r : Fed) (kept after : List ℕ) (n : ℕ) (fragments : List (List ℕ)) (printed : List ℕ)
      → Feeds state memory s room r kept after → r.filling ≡ Ok n → CallsWithRefused r.state kept fragments printed
      → CallsWithRefused state memory (s ∷ fragments) (take n after ++ printed)
  unfed : (state : State) (memory s room : List ℕ) (r : Fed) (kept after : List ℕ) (why : Unfed) (fragments : List (List ℕ)) (printed : List ℕ)
      → Feeds state memory s room r kept after → r.filling ≡ Err why → CallsWithRefused r.state kept fragments printed
      → CallsWithRefused state memory fragments printed
  unclosed : (state : State) (memory room : List ℕ) (r : Fed) (after : List ℕ) (why : Unfed) (fragments : List (List ℕ)) (printed : List ℕ)
      → Closes state memory room r after → r.filling ≡ Err why → CallsWithRefused r.state memory fragments printed
      → CallsWithRefused state memory fragments printed

-- however a text within the limit is cut, and whichever calls are refused on the way, the calls print its report; the memory may hold anything at the start
abbrev pub PrintTheReportWithRefused : Type 0
PrintTheReportWithRefused =
    (memory : List ℕ) (fragments : List (List ℕ)) (printed : List ℕ) → length (joined fragments) ≤ 4294967295
    → CallsWithRefused (state_of (reader_of [])) memory fragments printed → printed ≡ report (joined fragments)

-- a refused call changes neither state nor memory nor room, so that it can be made again
pub record Unchanged (state₀ : State) (memory₀ room₀ : List ℕ) (r : Fed) (memory₁ room₁ : List ℕ) : Type 0 where
  pub state : r.state ≡ state₀
  pub memory : memory₁ ≡ memory₀
  pub room : room₁ ≡ room₀

abbrev pub RefusedFeedingKeeps : Type 0
RefusedFeedingKeeps =
    (state : State) (memory s room : List ℕ) (r : Fed) (memory₁ room₁ : List ℕ) (why : Unfed)
    → Feeds state memory s room r memory₁ room₁ → r.filling ≡ Err why → Unchanged state memory room r memory₁ room₁

abbrev pub RefusedClosingKeeps : Type 0
RefusedClosingKeeps =
    (state : State) (memory room : List ℕ) (r : Fed) (room₁ : List ℕ) (why : Unfed)
    → Closes state memory room r room₁ → r.filling ≡ Err why → Unchanged state memory room r memory room₁

-- after a closing call that was done any call, beside any memory, is refused with 28
abbrev pub ClosedForGood : Type 0
ClosedForGood =
    (state : State) (memory room : List ℕ) (r : Fed) (room₁ : List ℕ) (n : ℕ) → Closes state memory room r room₁ → r.filling ≡ Ok n
    → (memory' s room' : List ℕ) (next : Fed) (memory₂ room₂ : List ℕ)
    → (Feeds r.state memory' s room' next memory₂ room₂ → number_in next.filling ≡ Some 28)
    × (Closes r.state memory' room' next room₂ → number_in next.filling ≡ Some 28)
