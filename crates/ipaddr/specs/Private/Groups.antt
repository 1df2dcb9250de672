-- The middle way between the grammar's nine forms and the code: a text as a number of groups.
use Rattle.std.specs.Prelude.{ℕ, zero, suc, ◌≤◌, ◌≡◌, Bool, false, ◌&&◌, List, eqb, Option, Some, None}
use Rattle.abnf.specs.Rule.{Rule, nothing, letter, ◌or◌, ◌then◌}
use Rattle.ipaddr.specs.Address.{h16, ipv4address}

-- n groups with a colon between each two; where `four`, an IPv4address may stand for the last two
unfoldable pub groups : Bool → ℕ → Rule
groups four zero = nothing
groups four (suc zero) = h16
groups four (suc (suc zero)) = (h16 then letter ":" then h16) or (λ s. four && ipv4address s)
groups four (suc (suc (suc n))) = h16 then letter ":" then groups four (suc (suc n))

-- what a count tells: up to 8, s is n groups exactly where the count is n, and for no n where there is none
abbrev pub Counted : Bool → List ℕ → Option ℕ → Type 0
Counted four s (Some count) = (n : ℕ) → n ≤ 8 → groups four n s ≡ eqb n count
Counted four s None = (n : ℕ) → n ≤ 8 → groups four n s ≡ false
