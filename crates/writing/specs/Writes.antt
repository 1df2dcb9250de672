-- What a writer answers and leaves.
use Rattle.std.specs.Prelude.{ℕ, ◌≡◌, List, Bool, length, Result}
use Rattle.meaning.specs.Written.{wrote_of, room_after}
use Rattle.clock.specs.declared.WriteRefusal.{WriteRefusal}

-- Writing the text t of a record whose places lie inside the value v or not: the answer, and the room after it.
pub record Writes (v : List ℕ) (inside : Bool) (t room : List ℕ) (answer : Result ℕ WriteRefusal) (after : List ℕ) : Type 0 where
  pub says : answer ≡ wrote_of v inside t (length room)
  pub leaves : after ≡ room_after (wrote_of v inside t (length room)) t room
