-- `ipaddr::is_ipv4_address` meets its contract: what is left is to be an octet more than the dots that are to come.
use Rattle.ipaddr.proofs.Four.{laws}
use Rattle.std.proofs.Common.{rules}
use Rattle.ipaddr.proofs.is_ipv4_address.Goals as goal

pub loop-init : goal.loop-init
loop-init c = search (rules, laws)

pub returns-then-rest-n : goal.returns-then-rest-n
returns-then-rest-n c = search (rules, laws)

pub overflow_add-rest : goal.overflow_add-rest
overflow_add-rest c = search (rules, laws)

pub loop-preserved : goal.loop-preserved
loop-preserved c = search (rules, laws)

pub returns : goal.returns
returns c = search (rules, laws)
