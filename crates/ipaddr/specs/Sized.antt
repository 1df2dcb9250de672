-- What the number of a text tells of it. `proofs/Number.antt` proves each of these statements.
use Rattle.std.specs.Prelude.{ℕ, ◌<◌, ◌≡◌, ◌↔◌, false, List, length, get_or, Some, None}
use Rattle.ipaddr.specs.Address.{ip_address}
use Rattle.ipaddr.specs.Number.{four, six, ip_address_of}

-- a text has no number exactly where it is no address
abbrev pub NoneIsNoAddress : Type 0
NoneIsNoAddress = (s : List ℕ) → ip_address_of s ≡ None ↔ ip_address s ≡ false

-- n numbers, each below a limit
pub record Sized (n limit : ℕ) (ws : List ℕ) : Type 0 where
  pub count : length ws ≡ n
  pub small : (i : ℕ) → get_or ws i 0 < limit

-- an IPv4 address has four octets, and an IPv6 address eight groups of 16 bits
pub record AddressSized : Type 0 where
  pub octets : (s os : List ℕ) → ip_address_of s ≡ Some (four os) → Sized 4 256 os
  pub groups : (s gs : List ℕ) → ip_address_of s ≡ Some (six gs) → Sized 8 65536 gs
