-- Each turn counts one census.
use Rattle.std.proofs.Common.{◌≡◌}
use Rattle.unite.proofs.unite_all.Given as goal

abbrev pub invariant-loop : goal.invariant-loop
invariant-loop g l = l.sums.censuses ≡ l.counter
