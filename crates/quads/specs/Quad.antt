-- A number below 4,294,967,296 in four bytes, the high byte first.
use Rattle.std.specs.Prelude.{ℕ, ◌+◌, ◌*◌, ◌/◌, ◌%◌, ◌<◌, ◌≡◌, List, [], ◌∷◌, ◌++◌, cond, ltb, length, get_or}
use Rattle.text.specs.Place.{place, bytes_at}

unfoldable pub quad : ℕ → List ℕ
quad n = n / 16777216 ∷ n / 65536 % 256 ∷ n / 256 % 256 ∷ n % 256 ∷ []

-- the number that the first four bytes of s are; 0 where there are fewer
unfoldable pub quad_of : List ℕ → ℕ
quad_of s = cond (ltb (length s) 4) 0 (((get_or s 0 0 * 256 + get_or s 1 0) * 256 + get_or s 2 0) * 256 + get_or s 3 0)

-- the number at a place of the memory m
unfoldable pub number_at : List ℕ → ℕ → ℕ
number_at m at = quad_of (bytes_at (place at 4) m)

-- a number comes back, whatever stands behind it. `proofs/Windows.antt` proves it
abbrev pub QuadBack : Type 0
QuadBack = (n : ℕ) (s : List ℕ) → n < 4294967296 → quad_of (quad n ++ s) ≡ n
