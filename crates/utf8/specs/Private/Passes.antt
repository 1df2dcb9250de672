-- What is owed by a private function that passes whole sequences.
use Rattle.std.specs.Prelude.{ℕ, ◌+◌, ◌<◌, ◌≤◌, ◌≡◌, List, length, drop, Option, MatchOption}
use Rattle.std.specs.List.{All, AllWithin}
use Rattle.abnf.specs.Rule.{longest}
use Rattle.utf8.specs.Utf8.{utf8_octets}

-- r bytes of s are passed: the longest front of s that is well-formed is they, and the longest one of what is left
abbrev pub Passes : List ℕ → ℕ → Type 0
Passes s r = (r ≤ length s) × (longest utf8_octets s ≡ r + longest utf8_octets (drop r s))

-- r is the first place of a byte that is 128 or more
abbrev pub IsFirstHigh : List ℕ → Option ℕ → Type 0
IsFirstHigh s r = MatchOption r (All (λ x. x < 128) s) (λ i. (i < length s) × AllWithin (λ x. x < 128) s 0 i)

-- r is the length of a sequence that s begins with: none where no front of s is well-formed
abbrev pub BeginsWith : List ℕ → Option ℕ → Type 0
BeginsWith s r = MatchOption r (longest utf8_octets s ≡ 0) (λ n. (0 < n) × Passes s n)
