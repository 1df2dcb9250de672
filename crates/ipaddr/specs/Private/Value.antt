-- One number of an address, and the groups of a text that has one at least.
use Rattle.std.specs.Prelude.{ℕ, ◌+◌, ◌*◌, cond, List, [], ◌∷◌}
use Rattle.number.specs.Hex.{hex_digit}
use Rattle.ipaddr.specs.Address.{ipv4address}
use Rattle.ipaddr.specs.Number.{octets_of, paired, groups_from}

-- the value of the digits s in a base, where v is that of the digits before them
unfoldable pub valued : ℕ → ℕ → List ℕ → ℕ
valued base v [] = v
valued base v (x ∷ s) = valued base (v * base + hex_digit x) s

unfoldable pub groups_in : List ℕ → List ℕ
groups_in s = cond (ipv4address s) (paired (octets_of s)) (groups_from 0 s)
