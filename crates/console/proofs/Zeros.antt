-- A number with zeros in front, as a formatter pads it.
use Rattle.std.proofs.Common.{◌≡◌, ℕ, ◌-◌, ◌^◌, List, [], ◌++◌, false, length, arith, refl, append-nil}
use Rattle.std.specs.Prelude.{replicate}
use Rattle.std.specs.Fmt.{padded_integral, format_spec, char_count}

none : char_count [] ≡ 0
unfolding char_count
none = refl

short : (k : ℕ) → 16 - k - 0 - char_count [] ≡ 16 - k
short k = omega (arith, none)

pub padded_16 : (own : List ℕ) → padded_integral (format_spec 32 0 4 16 (2 ^ 64 - 1)) false [] own ≡ replicate (16 - length own) 48 ++ own
unfolding padded_integral
padded_16 own = rw (short (length own), append-nil own) refl
