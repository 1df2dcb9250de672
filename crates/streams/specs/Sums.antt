-- Sums, and the first number that a test holds of: what is said of slots one after another.
use Rattle.std.specs.Prelude.{ℕ, zero, suc, ◌+◌, Bool, cond}

-- f 0 + f 1 + .. + f (n - 1)
unfoldable pub sum : ℕ → (ℕ → ℕ) → ℕ
sum zero f = 0
sum (suc n) f = sum n f + f n

-- the first of the k numbers from i on that p holds of, or the number behind them
unfoldable pub first_from : (ℕ → Bool) → ℕ → ℕ → ℕ
first_from p i zero = i
first_from p i (suc k) = cond (p i) i (first_from p (suc i) k)

-- the first number below n that p holds of, or n
abbrev pub first : (ℕ → Bool) → ℕ → ℕ
first p n = first_from p 0 n
