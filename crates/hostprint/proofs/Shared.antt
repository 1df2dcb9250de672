-- Hosts of one server share a number. Assumes nothing.
use Prim.Native.Nat.{ℕ}
use mathlib.Core.Path.{◌≡◌, refl}
use mathlib.Core.List.{List}
use Rattle.ipaddr.specs.Number.{four, six}
use Rattle.ipnumber.specs.Told.{told}
use Rattle.hosts.specs.Owed.{Named, address, name}
use Rattle.hosts.proofs.Owed.{server_shared}
use Rattle.hostprint.specs.Server.{print_of_host, PrintShared}

named_print : (h g : List ℕ) → Named h g → print_of_host h ≡ print_of_host g
unfolding print_of_host told
named_print h g (address (four os) p q) = rw (p, q) refl
named_print h g (address (six gs) p q) = rw (p, q) refl
named_print h g (name p q e) = rw (p, q, e) refl

pub print_shared : PrintShared
print_shared h g e = named_print h g ((server_shared h g).0 e)
