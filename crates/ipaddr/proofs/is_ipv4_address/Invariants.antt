-- `ipaddr::is_ipv4_address` meets its contract: what is left is to be an octet more than the dots that are to come.
use Rattle.ipaddr.proofs.Four.{Four}
use Rattle.ipaddr.proofs.is_ipv4_address.Given as goal

abbrev pub invariant-loop : goal.invariant-loop
invariant-loop l = Four l.s l.counter l.rest
