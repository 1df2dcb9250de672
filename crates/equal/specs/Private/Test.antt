-- Being one clock as a test, which computes, for examples and for those who need one. `proofs/Equality.antt` proves that it decides.
use Rattle.std.specs.Prelude.{Bool}
use Rattle.meaning.specs.Meaning.{RefMeaning}
use Rattle.equal.specs.Decides.{Decides}
use Rattle.equal.specs.Alike.{Hosts, OneClock}
use Rattle.equal.specs.Equality.{Equivalence, Yes}
use Rattle.equal.specs.Private.Flat.{clock_says, alike_flat}

unfoldable pub alike : Hosts → RefMeaning → RefMeaning → Bool
alike hosts m n = alike_flat hosts (clock_says m) (clock_says n)

-- it decides whether it is one clock
abbrev pub AlikeDecides : Type 0
AlikeDecides = (hosts : Hosts) → Equivalence (Yes hosts) → (m n : RefMeaning) → Decides (alike hosts m n) (OneClock hosts m n)
