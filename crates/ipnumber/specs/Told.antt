-- How the code holds the address that a text is: a family, and eight words.
use Rattle.std.specs.Prelude.{ℕ, List, ◌++◌, replicate, Option, Some, None}
use Rattle.ipaddr.specs.Number.{Address, four, six}
use Rattle.ipnumber.specs.declared.Family.{Family}
use Rattle.ipnumber.specs.declared.Family.TheVariants.{V4, V6}
use Rattle.ipnumber.specs.declared.IpNumber.{IpNumber}

abbrev pub ip_number : Family → List ℕ → IpNumber
ip_number f ws = record { family = f; words = ws }

-- the words are the octets with zeros behind them, or the groups, and there is no number where the text is no address
unfoldable pub told : Option Address → Option IpNumber
told None = None
told (Some (four os)) = Some (ip_number V4 (os ++ replicate 4 0))
told (Some (six gs)) = Some (ip_number V6 gs)
