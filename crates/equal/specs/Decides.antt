-- An answer that says whether something holds.
use Rattle.std.specs.Prelude.{◌≡◌, Bool, true}

-- r is yes exactly where P holds
pub record Decides (r : Bool) (P : Type 0) : Type 0 where
  pub right : r ≡ true → P
  pub found : P → r ≡ true

-- no second answer decides the same. `proofs/Decides.antt` proves it
abbrev pub DecidesSettled : Type 1
DecidesSettled = (P : Type 0) (q r : Bool) → Decides q P → Decides r P → q ≡ r
