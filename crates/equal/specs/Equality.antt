-- What the comparison of clocks owes. `proofs/Equality.antt` proves each of these statements.
use Rattle.std.specs.Prelude.{◌≡◌, Bool, true}
use Rattle.equal.specs.Alike.{Hosts, hosts_alike, OneClock}

-- a relation that sorts into classes
pub record Equivalence {A : Type 0} (R : A → A → Type 0) : Type 0 where
  pub to_self : (a : A) → R a a
  pub back : (a b : A) → R a b → R b a
  pub on : (a b c : A) → R a b → R b c → R a c

-- a test, as a relation
abbrev pub Yes : {A : Type 0} → (A → A → Bool) → A → A → Type 0
Yes test a b = test a b ≡ true

-- being one clock sorts so where the comparison of hosts does, and that of hosts does
pub record Classes : Type 0 where
  pub of_hosts : Equivalence (Yes hosts_alike)
  pub of_clocks : (hosts : Hosts) → Equivalence (Yes hosts) → Equivalence (OneClock hosts)
