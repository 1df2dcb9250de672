-- Demand 1, of a call of either writer: no second answer meets its contract, the number is the one that is owed, and on a refusal no byte of the
-- room is changed. `proofs/Demand1.antt` proves each of these statements.
use Rattle.std.specs.Prelude.{ℕ, ◌≡◌, List, Bool, length, Result}
use Rattle.meaning.specs.Demand1.{Numbered, RoomLeft}
use Rattle.writing.specs.Writes.{Writes}
use Rattle.clock.specs.declared.WriteRefusal.{WriteRefusal}

abbrev pub WritesSettled : Type 0
WritesSettled =
    (v : List ℕ) (inside : Bool) (t room : List ℕ) (answer other : Result ℕ WriteRefusal) (after later : List ℕ) → Writes v inside t room answer after
    → Writes v inside t room other later → (answer ≡ other) × (after ≡ later)

abbrev pub WritesNumbered : Type 0
WritesNumbered =
    (v : List ℕ) (inside : Bool) (t room : List ℕ) (answer : Result ℕ WriteRefusal) (after : List ℕ) → Writes v inside t room answer after
    → Numbered v inside t (length room) answer

abbrev pub WritesLeave : Type 0
WritesLeave =
    (v : List ℕ) (inside : Bool) (t room : List ℕ) (answer : Result ℕ WriteRefusal) (after : List ℕ) → Writes v inside t room answer after
    → RoomLeft t room answer after
