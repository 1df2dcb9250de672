-- When two hosts name one server: addresses by family and number, other hosts with ASCII letters alike in either case.
use Rattle.std.specs.Prelude.{ℕ, ◌+◌, Bool, false, cond, List, map, Option, Some, None}
use Rattle.text.specs.Word.{same}
use Rattle.number.specs.Hex.{between}
use Rattle.ipaddr.specs.Number.{Address, four, six, ip_address_of}

-- a letter from "A" to "Z" as its small one, and any other byte as it is
unfoldable pub lower : ℕ → ℕ
lower b = cond (between 65 90 b) (b + 32) b

unfoldable pub folded : List ℕ → List ℕ
folded s = map lower s

-- the same family and the same number
abbrev pub same_address : Address → Address → Bool
same_address (four os) (four ps) = same os ps
same_address (four os) (six gs) = false
same_address (six gs) (four os) = false
same_address (six gs) (six hs) = same gs hs

-- by the addresses where there are two, else by the names
abbrev pub alike_by : Option Address → Option Address → Bool → Bool
alike_by (Some a) (Some b) names = same_address a b
alike_by (Some a) None names = names
alike_by None y names = names

unfoldable pub one_server : List ℕ → List ℕ → Bool
one_server s t = alike_by (ip_address_of s) (ip_address_of t) (same (folded s) (folded t))
