-- What a call answers, and what it leaves.
use Rattle.std.specs.Prelude.{ℕ, ◌+◌, ◌≡◌, List, ◌++◌, Bool, false, cond, leb, ltb, length, drop, Result, Ok, Err}
use Rattle.report.specs.Reader.{Reader, feed_text, fed, close_text, closed}
use Rattle.lines.specs.declared.State.{State}
use Rattle.lines.specs.declared.Fed.{Fed}
use Rattle.lines.specs.declared.Unfed.{Unfed}
use Rattle.lines.specs.declared.Unfed.TheVariants.{Closed, OverLimit, NoRoom}
use Rattle.lines.specs.View.{view, state_of, memory_after}

-- what there is to print, or why there is nothing
pub data Outcome : Type 0 where
  prints : List ℕ → Outcome
  refuses : Unfed → Outcome

-- a fragment: any call after the closing one is refused, and then a fragment that takes the text over the limit
unfoldable pub feed_outcome : Reader → List ℕ → Outcome
feed_outcome r s =
    cond r.closed (refuses Closed)
    (cond (ltb 4294967295 (r.read + length s)) (refuses OverLimit)
    (prints (feed_text r s)))

unfoldable pub close_outcome : Reader → Outcome
close_outcome r = cond r.closed (refuses Closed) (prints (close_text r))

-- whether a call is accepted in a room of n bytes
unfoldable pub accepts : Outcome → ℕ → Bool
accepts (prints t) n = leb (length t) n
accepts (refuses why) n = false

-- its answer: how many bytes it filled, or why it was refused
unfoldable pub filling_of : Outcome → ℕ → Result ℕ Unfed
filling_of (prints t) n = cond (leb (length t) n) (Ok (length t)) (Err NoRoom)
filling_of (refuses why) n = Err why

-- the room then: the text at its front and the bytes behind it as they were; where the call was refused every byte as it was
unfoldable pub room_of : Outcome → List ℕ → List ℕ
room_of (prints t) room = cond (leb (length t) (length room)) (t ++ drop (length t) room) room
room_of (refuses why) room = room

-- A call on a state beside its memory. Where it is accepted, the reader that they stand for is `next` then, and the memory is `kept`; where it is
-- refused they are as they were.
pub record Does (outcome : Outcome) (next : Reader) (kept : List ℕ) (state₀ : State) (memory₀ room₀ : List ℕ) (r : Fed) (memory₁ room₁ : List ℕ) : Type 0 where
  pub filling : r.filling ≡ filling_of outcome (length room₀)
  pub room : room₁ ≡ room_of outcome room₀
  pub memory : memory₁ ≡ cond (accepts outcome (length room₀)) kept memory₀
  pub state : r.state ≡ cond (accepts outcome (length room₀)) (state_of next) state₀
  pub reader : view r.state memory₁ ≡ cond (accepts outcome (length room₀)) next (view state₀ memory₀)

-- a fragment s
abbrev pub Feeds : State → List ℕ → List ℕ → List ℕ → Fed → List ℕ → List ℕ → Type 0
Feeds state memory s room =
    let reader = view state memory in
    Does (feed_outcome reader s) (fed reader s) (memory_after (length reader.begun) memory s) state memory room

-- the end of the text, which leaves the memory as it was
abbrev pub Closes : State → List ℕ → List ℕ → Fed → List ℕ → Type 0
Closes state memory room r room₁ =
    let reader = view state memory in
    Does (close_outcome reader) (closed reader) memory state memory room r memory room₁

-- No second answer meets either: one answer and state, one memory and one room. `proofs/Settled.antt` proves both statements.
abbrev pub FeedsSettled : Type 0
FeedsSettled =
    (state : State) (memory s room : List ℕ) (r other : Fed) (memory₁ memory₂ room₁ room₂ : List ℕ)
    → Feeds state memory s room r memory₁ room₁ → Feeds state memory s room other memory₂ room₂
    → (r ≡ other) × (memory₁ ≡ memory₂) × (room₁ ≡ room₂)

abbrev pub ClosesSettled : Type 0
ClosesSettled =
    (state : State) (memory room : List ℕ) (r other : Fed) (room₁ room₂ : List ℕ)
    → Closes state memory room r room₁ → Closes state memory room other room₂ → (r ≡ other) × (room₁ ≡ room₂)
