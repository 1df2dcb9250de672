-- `ipnumber::read_octets` meets its contract: the octets before the place are read.
use Rattle.ipnumber.proofs.Octets.{Octets}
use Rattle.ipnumber.proofs.read_octets.Given as goal

abbrev pub invariant-loop-i : goal.invariant-loop-i
invariant-loop-i l = Octets l.s l.octets l.i l.rest
