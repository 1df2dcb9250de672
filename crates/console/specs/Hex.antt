-- A number of 64 bits in base 16.
use Rattle.std.specs.Prelude.{ℕ, ◌-◌, ◌++◌, List, length, replicate, false}
use Rattle.std.specs.Fmt.{digits}

-- its digits, in small letters, behind zeros, 16 in all
abbrev pub hex_digits : ℕ → List ℕ
hex_digits n = let own = digits 16 false n in replicate (16 - length own) 48 ++ own
