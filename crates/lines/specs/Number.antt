-- The number that a refused call carries, and the one that it owes. `proofs/Number.antt` proves the statements.
use Rattle.std.specs.Prelude.{ℕ, ◌<◌, ◌≡◌, ◌↔◌, List, [], ◌∷◌, Bool, true, false, cond, Result, Ok, Err, Option, Some, None}
use Rattle.lines.specs.declared.Unfed.{Unfed}
use Rattle.lines.specs.declared.Unfed.TheVariants.{Closed, OverLimit, NoRoom}

-- the number of each reason in the rules
unfoldable pub unfed_number : Unfed → ℕ
unfed_number Closed = 28
unfed_number OverLimit = 37
unfed_number NoRoom = 24

-- the number that an answer carries: none where bytes were filled
abbrev pub number_in : Result ℕ Unfed → Option ℕ
number_in (Ok n) = None
number_in (Err why) = Some (unfed_number why)

-- What there is against a call: of each reason by itself whether it holds, whatever the others do.
abbrev pub Against : Type 0
Against = Unfed → Bool

-- of reasons, one behind another, the number of the first that holds
unfoldable pub first_of : Against → List Unfed → Option ℕ
first_of against [] = None
first_of against (why ∷ others) = cond (against why) (Some (unfed_number why)) (first_of against others)

-- the number that is owed: the rules name 28 first, then 37, then 24; where no reason holds none is owed
abbrev pub owed_number : Against → Option ℕ
owed_number against = first_of against (Closed ∷ OverLimit ∷ NoRoom ∷ [])

-- at which turn the rules name a reason
abbrev pub turn : Unfed → ℕ
turn Closed = 1
turn OverLimit = 2
turn NoRoom = 3

-- the reason that is owed: it holds, and none does whose turn comes before
pub record Owed (against : Against) (why : Unfed) : Type 0 where
  pub holds : against why ≡ true
  pub first : (other : Unfed) → turn other < turn why → against other ≡ false

-- a number is owed exactly where its reason is, and none exactly where no reason holds
abbrev pub OwedIsFirst : Type 0
OwedIsFirst = (against : Against) (why : Unfed) → owed_number against ≡ Some (unfed_number why) ↔ Owed against why

abbrev pub NoneIsOwed : Type 0
NoneIsOwed = (against : Against) → owed_number against ≡ None ↔ ((why : Unfed) → against why ≡ false)

-- no two reasons share a number, so that the number tells the reason
abbrev pub NumbersApart : Type 0
NumbersApart = (why other : Unfed) → unfed_number why ≡ unfed_number other → why ≡ other
