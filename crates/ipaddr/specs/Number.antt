-- The number of an IP address: its family, and four octets or eight groups of 16 bits (RFC 3986, section 3.2.2; RFC 4291, section 2.2).
use Rattle.std.specs.Prelude.{ℕ, ◌+◌, ◌*◌, ◌-◌, cond, List, [], ◌∷◌, ◌++◌, eqb, ltb, length, take, drop, replicate, Option, Some, None}
use Rattle.text.specs.Find.{before_pair}
use Rattle.number.specs.Hex.{hex_digit}
use Rattle.ipaddr.specs.Address.{ipv4address, ipv6address}

pub data Address : Type 0 where
  -- an IPv4 address by its octets
  four : List ℕ → Address
  -- an IPv6 address by its groups
  six : List ℕ → Address

-- the numbers between the dots of an IPv4address, of which the first has the value v before s
unfoldable pub octets_from : ℕ → List ℕ → List ℕ
octets_from v [] = v ∷ []
octets_from v (x ∷ s) = cond (eqb x 46) (v ∷ octets_from 0 s) (octets_from (v * 10 + hex_digit x) s)

unfoldable pub octets_of : List ℕ → List ℕ
octets_of s = octets_from 0 s

-- octets two by two, as groups
unfoldable pub paired : List ℕ → List ℕ
paired [] = []
paired (a ∷ []) = a ∷ []
paired (a ∷ b ∷ os) = (a * 256 + b) ∷ paired os

-- the groups between the colons of a text, of which the first has the value v before s; an IPv4address at the end stands for two
unfoldable pub groups_from : ℕ → List ℕ → List ℕ
groups_from v [] = v ∷ []
groups_from v (x ∷ s) =
    cond (eqb x 58)
    (v ∷ cond (ipv4address s) (paired (octets_of s)) (groups_from 0 s))
    (groups_from (v * 16 + hex_digit x) s)

-- the groups on one side of a "::", which may have none
unfoldable pub side_groups : List ℕ → List ℕ
side_groups [] = []
side_groups (x ∷ s) = cond (ipv4address (x ∷ s)) (paired (octets_of (x ∷ s))) (groups_from 0 (x ∷ s))

-- between the two sides stand as many zero groups as are missing
abbrev pub filled : List ℕ → List ℕ → List ℕ
filled l r = l ++ replicate (8 - (length l + length r)) 0 ++ r

unfoldable pub groups_of : List ℕ → List ℕ
groups_of s =
    let gap = before_pair 58 58 s in
    cond (ltb gap (length s)) (filled (side_groups (take gap s)) (side_groups (drop (gap + 2) s))) (side_groups s)

-- the address that a text is, or none
unfoldable pub ip_address_of : List ℕ → Option Address
ip_address_of s = cond (ipv4address s) (Some (four (octets_of s))) (cond (ipv6address s) (Some (six (groups_of s))) None)
