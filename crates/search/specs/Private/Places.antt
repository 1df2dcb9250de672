-- What the functions that look for a place of a byte owe: none where there is none.
use Rattle.std.specs.Prelude.{ℕ, ◌+◌, ◌<◌, ◌≡◌, ◌≢◌, List, length, Option, MatchOption, slice_index}
use Rattle.std.specs.List.{All, AllWithin, HoldsAt}

-- a stands at i in s, and b straight behind it
abbrev pub IsPairAt : ℕ → ℕ → List ℕ → ℕ → Type 0
IsPairAt a b s i = (slice_index s i ≡ a) × (slice_index s (i + 1) ≡ b)

-- r is the first place where a stands in s and b straight behind it
abbrev pub IsFirstPair : ℕ → ℕ → List ℕ → Option ℕ → Type 0
IsFirstPair a b s r =
    MatchOption r ((k : ℕ) → k + 1 < length s → IsPairAt a b s k → ⊥)
    (λ i. (i + 1 < length s) × IsPairAt a b s i × ((k : ℕ) → k < i → IsPairAt a b s k → ⊥))

-- r is the last place of b in s
abbrev pub IsLast : ℕ → List ℕ → Option ℕ → Type 0
IsLast b s r =
    MatchOption r (All (λ x. x ≢ b) s) (λ i. (i < length s) × HoldsAt (λ x. x ≡ b) s i × AllWithin (λ x. x ≢ b) s (i + 1) (length s))
