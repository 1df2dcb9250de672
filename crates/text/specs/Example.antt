-- Worked examples of a definition, as one statement over a list of them.
use Rattle.std.specs.Prelude.{◌≡◌, List, map}

-- what is given, and the answer that is owed for it
pub record Example (A B : Type 0) : Type 0 where
  pub given : A
  pub answer : B

module _ {A B : Type 0} where
  infix 70 ◌gives◌
  abbrev pub ◌gives◌ : A → B → Example A B
  a gives b = record { given = a; answer = b }

  -- the definition f gives each answer
  abbrev pub Each : (A → B) → List (Example A B) → Type 0
  Each f rows = map (λ (r : Example A B). f r.given) rows ≡ map (λ (r : Example A B). r.answer) rows
