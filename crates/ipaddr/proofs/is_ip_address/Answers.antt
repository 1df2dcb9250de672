-- `ipaddr::is_ip_address` meets its contract: either of the two, and no address begins with a bracket or a letter behind f.
use Rattle.ipaddr.proofs.Six.{laws}
use Rattle.ipaddr.proofs.Fits.{first_laws}
use Rattle.std.proofs.Common.{rules}
use Rattle.ipaddr.proofs.is_ip_address.Goals as goal

pub returns-then-matches : goal.returns-then-matches
returns-then-matches c = search (rules, laws, first_laws)

pub returns-then-is_ipv4_address : goal.returns-then-is_ipv4_address
returns-then-is_ipv4_address c = search (rules, laws, first_laws)

pub returns-else-is_ipv4_address : goal.returns-else-is_ipv4_address
returns-else-is_ipv4_address c = search (rules, laws, first_laws)
