-- A number that hosts of one server share: an address is printed by its number, another host with small letters. Nothing rests on which number it is.
use Rattle.std.specs.Prelude.{ℕ, ◌≡◌, List, true, Option, Some, None}
use Rattle.ipaddr.specs.Number.{ip_address_of}
use Rattle.ipnumber.specs.Told.{told}
use Rattle.ipnumber.specs.declared.Family.{Family}
use Rattle.ipnumber.specs.declared.Family.TheVariants.{V4, V6}
use Rattle.ipnumber.specs.declared.IpNumber.{IpNumber}
use Rattle.hosts.specs.Server.{folded, one_server}
use Rattle.hostprint.specs.Mixed.{mixed_text}

abbrev pub family_number : Family → ℕ
family_number V4 = 4
family_number V6 = 6

-- of the host h, whose number is x, or which has none
abbrev pub number_print : Option IpNumber → List ℕ → ℕ
number_print (Some x) h = mixed_text (family_number x.family) x.words
number_print None h = mixed_text 0 (folded h)

unfoldable pub print_of_host : List ℕ → ℕ
print_of_host h = number_print (told (ip_address_of h)) h

-- hosts of one server share it. `proofs/Shared.antt` proves it
abbrev pub PrintShared : Type 0
PrintShared = (h g : List ℕ) → one_server h g ≡ true → print_of_host h ≡ print_of_host g
