-- `ipnumber::read_octets` meets its contract: the octets before the place are read.
use Rattle.ipnumber.proofs.Octets.{octets_next, octet_laws}
use Rattle.std.proofs.Common.{rules, arith}
use Rattle.ipnumber.proofs.read_octets.Goals as goal

pub loop-i-init : goal.loop-i-init
loop-i-init c = search (rules, octet_laws)

pub returns-then-rest-n : goal.returns-then-rest-n
returns-then-rest-n c = search (rules, octet_laws)

pub returns-in_err-next : goal.returns-in_err-next
returns-in_err-next c = search (rules, octet_laws)

pub loop-i-preserved : goal.loop-i-preserved
loop-i-preserved c =
    octets_next c.loop-i.invariant c.find-n.result (omega arith) c.find-n.ensures (omega arith) c.octet.result c.octet.ensures c.in_ok-next.next
    c.in_ok-next.was

pub returns-in_err-octets : goal.returns-in_err-octets
returns-in_err-octets c = search (rules, octet_laws)

pub returns : goal.returns
returns c = search (rules, octet_laws)
