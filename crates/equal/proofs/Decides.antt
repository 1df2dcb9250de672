-- Two answers that decide the same are equal. Assumes nothing.
use Rattle.text.proofs.Bools.{both_ways}
use Rattle.equal.specs.Decides.{DecidesSettled}

pub decides_settled : DecidesSettled
decides_settled P q r a b = both_ways q r (λ e. b.found (a.right e)) (λ e. a.found (b.right e))
