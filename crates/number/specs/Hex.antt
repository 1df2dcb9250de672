-- The digits of base 16.
use Rattle.std.specs.Prelude.{ℕ, zero, suc, ◌+◌, ◌-◌, ◌/◌, ◌%◌, Bool, cond, ◌&&◌, List, [], ◌∷◌, ◌++◌, leb, ltb}

abbrev pub between : ℕ → ℕ → ℕ → Bool
between a z b = leb a b && leb b z

-- the value of a digit of base 16, "0" to "9", "A" to "F" or "a" to "f": 16 for any other byte
unfoldable pub hex_digit : ℕ → ℕ
hex_digit b =
    cond (between 48 57 b) (b - 48)
    (cond (between 65 70 b) (b - 65 + 10)
    (cond (between 97 102 b) (b - 97 + 10) 16))

-- the digit of base 16 that has the value d, "0" to "9" or "A" to "F"
unfoldable pub hex_capital : ℕ → ℕ
hex_capital d = cond (ltb d 10) (48 + d) (65 + (d - 10))

-- the same, "0" to "9" or "a" to "f"
unfoldable pub hex_small : ℕ → ℕ
hex_small d = cond (ltb d 10) (48 + d) (97 + (d - 10))

-- the last k digits of base 16 of a number, its leading zeros among them, in capitals
unfoldable pub hex_capitals : ℕ → ℕ → List ℕ
hex_capitals zero n = []
hex_capitals (suc k) n = hex_capitals k (n / 16) ++ hex_capital (n % 16) ∷ []

-- a text in base 16, two small digits a byte
unfoldable pub hex_bytes : List ℕ → List ℕ
hex_bytes [] = []
hex_bytes (b ∷ s) = hex_small (b / 16) ∷ hex_small (b % 16) ∷ hex_bytes s
