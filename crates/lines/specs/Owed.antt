-- The number that each call owes, and that the calls answer with it: `Feeds` and `Closes` told by that number. `proofs/Owed.antt` proves both statements.
use Rattle.std.specs.Prelude.{ℕ, ◌+◌, ◌≡◌, ◌↔◌, List, ◌++◌, false, ltb, length, drop, Ok, Option, Some, None}
use Rattle.report.specs.Reader.{Reader, feed_text, fed, close_text, closed}
use Rattle.lines.specs.declared.State.{State}
use Rattle.lines.specs.declared.Fed.{Fed}
use Rattle.lines.specs.declared.Unfed.TheVariants.{Closed, OverLimit, NoRoom}
use Rattle.lines.specs.View.{view, state_of, memory_after}
use Rattle.lines.specs.Number.{number_in, Against, owed_number}
use Rattle.lines.specs.Call.{Feeds, Closes}

-- against a fragment s with n bytes of room: the text was closed; it would have over 4,294,967,295 bytes; what is printed has more bytes than the room
unfoldable pub against_feeding : Reader → List ℕ → ℕ → Against
against_feeding r s n Closed = r.closed
against_feeding r s n OverLimit = ltb 4294967295 (r.read + length s)
against_feeding r s n NoRoom = ltb n (length (feed_text r s))

-- against the closing call, which brings no byte
unfoldable pub against_closing : Reader → ℕ → Against
against_closing r n Closed = r.closed
against_closing r n OverLimit = false
against_closing r n NoRoom = ltb n (length (close_text r))

-- what is left where no number is owed, and where one is
abbrev pub if_none : {A : Type 0} → Option ℕ → A → A → A
if_none None a b = a
if_none (Some k) a b = b

-- A call on a state beside its memory, which prints t and owes a number or none. Where none is owed it is done: the answer is how many bytes t has, t
-- stands at the room's front and the bytes behind it are as they were, the memory is `kept`, and the reader that state and memory stand for is `next`.
-- Where a number is owed the answer carries it, and state, memory and room are as they were.
pub record DoesAsOwed (t : List ℕ) (owed : Option ℕ) (next : Reader) (kept : List ℕ) (state₀ : State) (memory₀ room₀ : List ℕ) (r : Fed) (memory₁ room₁ : List ℕ) : Type 0 where
  pub number : number_in r.filling ≡ owed
  pub filled : owed ≡ None → r.filling ≡ Ok (length t)
  pub room : room₁ ≡ if_none owed (t ++ drop (length t) room₀) room₀
  pub memory : memory₁ ≡ if_none owed kept memory₀
  pub state : r.state ≡ if_none owed (state_of next) state₀
  pub reader : view r.state memory₁ ≡ if_none owed next (view state₀ memory₀)

-- a fragment s
abbrev pub FeedsAsOwed : State → List ℕ → List ℕ → List ℕ → Fed → List ℕ → List ℕ → Type 0
FeedsAsOwed state memory s room =
    let reader = view state memory in
    DoesAsOwed (feed_text reader s) (owed_number (against_feeding reader s (length room))) (fed reader s) (memory_after (length reader.begun) memory s)
    state memory room

-- the end of the text, which leaves the memory as it was
abbrev pub ClosesAsOwed : State → List ℕ → List ℕ → Fed → List ℕ → Type 0
ClosesAsOwed state memory room r room₁ =
    let reader = view state memory in
    DoesAsOwed (close_text reader) (owed_number (against_closing reader (length room))) (closed reader) memory state memory room r memory room₁

-- what a call's contract says is neither more nor less than what it owes
abbrev pub FeedingIsOwed : Type 0
FeedingIsOwed =
    (state : State) (memory s room : List ℕ) (r : Fed) (memory₁ room₁ : List ℕ)
    → Feeds state memory s room r memory₁ room₁ ↔ FeedsAsOwed state memory s room r memory₁ room₁

abbrev pub ClosingIsOwed : Type 0
ClosingIsOwed =
    (state : State) (memory room : List ℕ) (r : Fed) (room₁ : List ℕ) → Closes state memory room r room₁ ↔ ClosesAsOwed state memory room r room₁
