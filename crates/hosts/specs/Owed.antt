-- What naming one server owes. `proofs/Owed.antt` proves each of these statements.
use Rattle.std.specs.Prelude.{ℕ, ◌≡◌, ◌↔◌, List, true, false, Some, None}
use Rattle.ipaddr.specs.Address.{ip_address}
use Rattle.ipaddr.specs.Number.{Address, ip_address_of}
use Rattle.hosts.specs.Server.{folded, one_server}

-- hosts sort into servers
pub record ServersSorted : Type 0 where
  pub to_self : (s : List ℕ) → one_server s s ≡ true
  pub back : (s t : List ℕ) → one_server s t ≡ true → one_server t s ≡ true
  pub on : (s t u : List ℕ) → one_server s t ≡ true → one_server t u ≡ true → one_server s u ≡ true

-- a host that is an address names no server that one which is none names
abbrev pub AddressesApart : Type 0
AddressesApart = (s t : List ℕ) → ip_address s ≡ true → ip_address t ≡ false → one_server s t ≡ false

-- what a server has: the number of an address, and the letters of any other name
pub data Named (s t : List ℕ) : Type 0 where
  address : (a : Address) → ip_address_of s ≡ Some a → ip_address_of t ≡ Some a → Named s t
  name : ip_address_of s ≡ None → ip_address_of t ≡ None → folded s ≡ folded t → Named s t

-- two hosts name one server exactly where they share that
abbrev pub ServerShared : Type 0
ServerShared = (s t : List ℕ) → one_server s t ≡ true ↔ Named s t
