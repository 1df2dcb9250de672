-- Numbers of an address as the code holds them: as many as were read, and 0 behind them.
use Rattle.std.specs.Prelude.{ℕ, ◌+◌, ◌*◌, ◌-◌, ◌<◌, ◌≡◌, Bool, cond, ◌&&◌, List, ◌++◌, ltb, length, get_or, set, replicate, Option, Some, None}
use Rattle.ipaddr.specs.Address.{dec_octet, h16, ipv4address, ipv6address}
use Rattle.ipaddr.specs.Number.{octets_of, side_groups, groups_of}
use Rattle.ipaddr.specs.Private.Groups.{Counted}
use Rattle.ipaddr.specs.Private.Value.{valued}
use Rattle.ipnumber.specs.declared.Words.{Words}

abbrev pub words : ℕ → List ℕ → Words
words n ws = record { count = n; words = ws }

unfoldable pub holding : List ℕ → Words
holding l = words (length l) (l ++ replicate (8 - length l) 0)

-- the value of one octet or group
unfoldable pub octet_of : List ℕ → Option ℕ
octet_of s = cond (dec_octet s) (Some (valued 10 0 s)) None

unfoldable pub group_of : List ℕ → Option ℕ
group_of s = cond (h16 s) (Some (valued 16 0 s)) None

-- one word more, where there is room
unfoldable pub pushed : Words → ℕ → Option Words
pushed w x = cond (ltb w.count 8) (Some (words (w.count + 1) (set w.words w.count x))) None

abbrev pub pushed_on : Option Words → ℕ → Option Words
pushed_on None x = None
pushed_on (Some w) x = pushed w x

-- the digits of a number of 16 bits
pub record Small (base : ℕ) (s : List ℕ) : Type 0 where
  pub some : 0 < base
  pub fits : valued base 0 s < 65536

unfoldable pub octets_read : List ℕ → Option (List ℕ)
octets_read s = cond (ipv4address s) (Some (octets_of s)) None

-- four octets as words, with zeros behind them
unfoldable pub wide : List ℕ → List ℕ
wide os = os ++ replicate 4 0

-- the four octets of an IPv4address as two words more
unfoldable pub with_pairs : Words → List ℕ → Option Words
with_pairs w os = pushed_on (pushed w (get_or os 0 0 * 256 + get_or os 1 0)) (get_or os 2 0 * 256 + get_or os 3 0)

-- the last group, or an IPv4address where `four`
unfoldable pub with_last : Bool → Words → List ℕ → Option Words
with_last four w s = cond (h16 s) (pushed w (valued 16 0 s)) (cond (four && ipv4address s) (with_pairs w (octets_of s)) None)

-- the groups of a text with colons between them
pub record GroupsHeld (four : Bool) (s : List ℕ) (w : Words) : Type 0 where
  pub counted : Counted four s (Some w.count)
  pub held : w ≡ holding (side_groups s)

abbrev pub GroupsRead : Bool → List ℕ → Option Words → Type 0
GroupsRead four s (Some w) = GroupsHeld four s w
GroupsRead four s None = Counted four s None

unfoldable pub six_read : List ℕ → Option (List ℕ)
six_read s = cond (ipv6address s) (Some (groups_of s)) None
