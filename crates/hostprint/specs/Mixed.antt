-- Numbers and texts mixed into a number of 32 bits.
use Rattle.std.specs.Prelude.{ℕ, ◌+◌, ◌*◌, ◌%◌, List, [], ◌∷◌}

-- one number taken into another, in 32 bits
unfoldable pub mixed : ℕ → ℕ → ℕ
mixed n k = (n * 16777619 + k) % 4294967296

-- the numbers of a list, one after another
unfoldable pub mixed_text : ℕ → List ℕ → ℕ
mixed_text n [] = n
mixed_text n (b ∷ s) = mixed_text (mixed n b) s
