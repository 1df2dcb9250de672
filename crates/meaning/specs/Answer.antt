-- What reading answers: what the bytes read as, or the refusal of the first rule that they break.
use Rattle.std.specs.Prelude.{◌≡◌, ℕ, ◌+◌, ◌-◌, List, Bool, cond, ltb, eqb, length, Result, Option, ⊤, Some, None, Ok, Err}
use Rattle.text.specs.Find.{before}
use Rattle.text.specs.Place.{place}
use Rattle.text.specs.declared.Place.{Place}
use Rattle.number.specs.Decimal.{number_of}
use Rattle.utf8.specs.Utf8.{utf8_of}
use Rattle.clock.specs.Refusal.{refusal}
use Rattle.clock.specs.declared.Refusal.{Refusal}
use Rattle.number.specs.declared.Reason.{Reason}

-- what was read, or the refusal
abbrev pub Answer : Type 0 → Type 0
Answer A = Result A Refusal

-- one answer alone meets a contract that names it. `proofs/Settled.antt` proves it
abbrev pub Settled : Type 0 → Type 0
Settled A = (a q r : Answer A) → q ≡ a → r ≡ a → q ≡ r

module _ {A : Type 0} where
  -- refused with a number of the rules, at the n bytes from `at` on
  abbrev pub refuse : ℕ → ℕ → ℕ → Answer A
  refuse k at n = Err (refusal k at n)

  module _ {B : Type 0} where
    infixl 20 ◌>>=◌
    -- what was accepted is read on with; a refusal is handed on
    abbrev pub ◌>>=◌ : Answer A → (A → Answer B) → Answer B
    Ok a >>= f = f a
    Err r >>= f = Err r

-- no bytes
abbrev pub empty : List ℕ → Bool
empty s = eqb (length s) 0

-- a number that was read, or a refusal
abbrev pub or_refuse : Result ℕ Reason → Refusal → Answer ℕ
or_refuse (Ok n) r = Ok n
or_refuse (Err why) r = Err r

-- a number up to a limit, whose refusal has the number k and all of its text as place
abbrev pub number_at : ℕ → ℕ → ℕ → List ℕ → Answer ℕ
number_at limit k at s = or_refuse (number_of limit s) (refusal k at (length s))

-- an extension: the name before the first "=", the value after it; an empty name is refused with the number k
module _ {A : Type 0} where
  unfoldable pub extension_of : (Place → Option Place → A) → ℕ → ℕ → List ℕ → Answer A
  extension_of make k at s =
      let i = before 61 s in
      cond (eqb i 0) (refuse k at 0)
      (Ok (make (place at i) (cond (ltb i (length s)) (Some (place (at + (i + 1)) (length s - (i + 1)))) None)))

-- how many bytes a value may have
abbrev pub most_bytes : ℕ
most_bytes = 1024

-- Before all else a value over 1,024 bytes is refused, and second one that is not well-formed UTF-8.
module _ {A : Type 0} where
  abbrev pub if_well : Result ⊤ ℕ → Answer A → Answer A
  if_well (Ok u) a = a
  if_well (Err at) a = refuse 2 at 1

  unfoldable pub guarded : List ℕ → Answer A → Answer A
  guarded s a = cond (ltb most_bytes (length s)) (refuse 1 most_bytes (length s - most_bytes)) (if_well (utf8_of s) a)
