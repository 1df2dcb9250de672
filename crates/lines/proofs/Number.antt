-- The statements of `specs/Number.antt`, proved: case by case over the three reasons. Assumes nothing.
use Rattle.std.specs.Prelude.{Option, Some, None}
use Prim.Native.Nat.{ℕ, ◌<◌}
use mathlib.Core.Path.{◌≡◌, refl, ap}
use mathlib.Core.Bool.{Bool, true, false, cond}
use native.Mathlib.Omega.{arith}
use Rattle.lines.specs.declared.Unfed.{Unfed}
use Rattle.lines.specs.declared.Unfed.TheVariants.{Closed, OverLimit, NoRoom}
use Rattle.lines.specs.Number.{unfed_number, Against, first_of, owed_number, turn, Owed, OwedIsFirst, NoneIsOwed, NumbersApart}

-- a number, and 0 for none
abbrev pub value_of : Option ℕ → ℕ
value_of None = 0
value_of (Some k) = k

pub numbers_apart : NumbersApart
unfolding unfed_number
numbers_apart Closed Closed e = refl
numbers_apart Closed OverLimit e = absurd (omega arith)
numbers_apart Closed NoRoom e = absurd (omega arith)
numbers_apart OverLimit Closed e = absurd (omega arith)
numbers_apart OverLimit OverLimit e = refl
numbers_apart OverLimit NoRoom e = absurd (omega arith)
numbers_apart NoRoom Closed e = absurd (omega arith)
numbers_apart NoRoom OverLimit e = absurd (omega arith)
numbers_apart NoRoom NoRoom e = refl

-- the number that is owed, by the three reasons
abbrev picked : Bool → Bool → Bool → Option ℕ
picked a b c = cond a (Some 28) (cond b (Some 37) (cond c (Some 24) None))

is_28 : (a b c : Bool) → picked a b c ≡ Some 28 → a ≡ true
is_28 true b c e = refl
is_28 false true c e = absurd (omega (arith, ap value_of e))
is_28 false false true e = absurd (omega (arith, ap value_of e))
is_28 false false false e = absurd (omega (arith, ap value_of e))

is_37 : (a b c : Bool) → picked a b c ≡ Some 37 → (a ≡ false) × (b ≡ true)
is_37 true b c e = absurd (omega (arith, ap value_of e))
is_37 false true c e = (refl, refl)
is_37 false false true e = absurd (omega (arith, ap value_of e))
is_37 false false false e = absurd (omega (arith, ap value_of e))

is_24 : (a b c : Bool) → picked a b c ≡ Some 24 → (a ≡ false) × (b ≡ false) × (c ≡ true)
is_24 true b c e = absurd (omega (arith, ap value_of e))
is_24 false true c e = absurd (omega (arith, ap value_of e))
is_24 false false true e = (refl, refl, refl)
is_24 false false false e = absurd (omega (arith, ap value_of e))

is_none : (a b c : Bool) → picked a b c ≡ None → (a ≡ false) × (b ≡ false) × (c ≡ false)
is_none true b c e = absurd (omega (arith, ap value_of e))
is_none false true c e = absurd (omega (arith, ap value_of e))
is_none false false true e = absurd (omega (arith, ap value_of e))
is_none false false false e = (refl, refl, refl)

module _ (against : Against) where
  none_before : (other : Unfed) → turn other < 1 → against other ≡ false
  none_before Closed h = absurd (omega arith)
  none_before OverLimit h = absurd (omega arith)
  none_before NoRoom h = absurd (omega arith)

  closed_before : against Closed ≡ false → (other : Unfed) → turn other < 2 → against other ≡ false
  closed_before e Closed h = e
  closed_before e OverLimit h = absurd (omega arith)
  closed_before e NoRoom h = absurd (omega arith)

  two_before : against Closed ≡ false → against OverLimit ≡ false → (other : Unfed) → turn other < 3 → against other ≡ false
  two_before e f Closed h = e
  two_before e f OverLimit h = f
  two_before e f NoRoom h = absurd (omega arith)

  owed_holds : (why : Unfed) → owed_number against ≡ Some (unfed_number why) → Owed against why
  unfolding first_of unfed_number
  owed_holds Closed e = record { holds = is_28 (against Closed) (against OverLimit) (against NoRoom) e; first = none_before }
  owed_holds OverLimit e =
      let x = is_37 (against Closed) (against OverLimit) (against NoRoom) e in
      record { holds = x.1; first = closed_before x.0 }
  owed_holds NoRoom e =
      let x = is_24 (against Closed) (against OverLimit) (against NoRoom) e in
      record { holds = x.2; first = two_before x.0 x.1 }

  holds_owed : (why : Unfed) → Owed against why → owed_number against ≡ Some (unfed_number why)
  unfolding first_of unfed_number
  holds_owed Closed o = simp o.holds
  holds_owed OverLimit o = simp (o.first Closed (omega arith), o.holds)
  holds_owed NoRoom o = simp (o.first Closed (omega arith), o.first OverLimit (omega arith), o.holds)

  all_false : owed_number against ≡ None → (why : Unfed) → against why ≡ false
  unfolding first_of unfed_number
  all_false e Closed = (is_none (against Closed) (against OverLimit) (against NoRoom) e).0
  all_false e OverLimit = (is_none (against Closed) (against OverLimit) (against NoRoom) e).1
  all_false e NoRoom = (is_none (against Closed) (against OverLimit) (against NoRoom) e).2

  false_all : ((why : Unfed) → against why ≡ false) → owed_number against ≡ None
  unfolding first_of unfed_number
  false_all f = simp (f Closed, f OverLimit, f NoRoom)

pub owed_is_first : OwedIsFirst
owed_is_first against why = (owed_holds against why, holds_owed against why)

pub none_is_owed : NoneIsOwed
none_is_owed against = (all_false against, false_all against)
