-- Where a byte, or a mark of two bytes, stands in a text.
use Rattle.std.specs.Prelude.{ℕ, zero, suc, List, [], ◌∷◌, Bool, false, cond, ◌&&◌, eqb}

-- how many bytes stand before the first b: all of them where there is none
unfoldable pub before : ℕ → List ℕ → ℕ
before b [] = 0
before b (x ∷ s) = cond (eqb x b) 0 (suc (before b s))

-- whether a text begins with a and then b
abbrev pub starts_pair : ℕ → ℕ → List ℕ → Bool
starts_pair a b [] = false
starts_pair a b (x ∷ []) = false
starts_pair a b (x ∷ y ∷ s) = eqb x a && eqb y b

-- how many bytes stand before the first a that has b straight behind it: all of them where there is none
unfoldable pub before_pair : ℕ → ℕ → List ℕ → ℕ
before_pair a b [] = 0
before_pair a b (x ∷ s) = cond (starts_pair a b (x ∷ s)) 0 (suc (before_pair a b s))

-- a count that is there, one more, and where it is 0 another
abbrev pub suc_or : ℕ → ℕ → ℕ
suc_or zero other = other
suc_or (suc k) other = suc (suc k)

-- how many bytes reach up to the last b, itself included: 0 where there is none
unfoldable pub through_last : ℕ → List ℕ → ℕ
through_last b [] = 0
through_last b (x ∷ s) = suc_or (through_last b s) (cond (eqb x b) 1 0)
