-- A decimal number as text. Read: an optional single "+", then one or more decimal digits, leading zeros free, the value at most a limit.
use Rattle.std.specs.Prelude.{ℕ, zero, suc, ◌+◌, ◌*◌, ◌-◌, ◌/◌, ◌%◌, List, [], ◌∷◌, ◌++◌, Bool, true, cond, ◌&&◌, leb, ltb, eqb, length, Result, Ok, Err}
use Rattle.number.specs.Hex.{between}
use Rattle.number.specs.declared.Reason.TheVariants.{Empty, Digit, Size}
use Rattle.number.specs.declared.Reason.{Reason}

-- a decimal digit, "0" to "9"
abbrev pub is_digit : ℕ → Bool
is_digit b = between 48 57 b

unfoldable pub all_digits : List ℕ → Bool
all_digits [] = true
all_digits (b ∷ s) = is_digit b && all_digits s

-- the value of the digits s, read behind digits of the value v
unfoldable pub value_from : ℕ → List ℕ → ℕ
value_from v [] = v
value_from v (b ∷ s) = value_from (v * 10 + (b - 48)) s

-- one or more digits: refused where there is none, then for a byte that is no digit, then for its size
unfoldable pub digits_of : ℕ → List ℕ → Result ℕ Reason
digits_of limit s =
    cond (eqb (length s) 0) (Err Empty)
    (cond (all_digits s)
    (cond (leb (value_from 0 s) limit) (Ok (value_from 0 s)) (Err Size))
    (Err Digit))

-- what stands behind one "+", where there is one
abbrev pub after_plus : List ℕ → List ℕ
after_plus [] = []
after_plus (b ∷ s) = cond (eqb b 43) s (b ∷ s)

unfoldable pub number_of : ℕ → List ℕ → Result ℕ Reason
number_of limit s = digits_of limit (after_plus s)

-- the decimal digits of n without leading zeros, at most as many as `most` says: those of n / 10, where there are any, and n % 10
unfoldable pub digits_in : ℕ → ℕ → List ℕ
digits_in zero n = []
digits_in (suc most) n = cond (ltb n 10) [] (digits_in most (n / 10)) ++ (48 + n % 10) ∷ []

-- a number of at most 64 bits, written plain: it has at most twenty digits
unfoldable pub decimal : ℕ → List ℕ
decimal n = digits_in 20 n
