-- The same-clock question as a test, which computes, for examples and for those who need one. `proofs/Owed.antt` proves that it decides.
use Rattle.std.specs.Prelude.{ℕ, List, Bool, false, Result, Ok, Err}
use Rattle.meaning.specs.ReferenceClock.{read_reference_clock}
use Rattle.meaning.specs.Meaning.{ref_meaning}
use Rattle.equal.specs.Alike.{hosts_alike}
use Rattle.equal.specs.Decides.{Decides}
use Rattle.equal.specs.Private.Test.{alike}
use Rattle.questions.specs.SameClock.{SameClock}
use Rattle.clock.specs.declared.ReferenceClock.{ReferenceClock}
use Rattle.clock.specs.declared.Refusal.{Refusal}

abbrev pub both_alike : List ℕ → Result ReferenceClock Refusal → List ℕ → Result ReferenceClock Refusal → Bool
both_alike v (Ok c) w (Ok d) = alike hosts_alike (ref_meaning v c) (ref_meaning w d)
both_alike v (Ok c) w (Err r) = false
both_alike v (Err r) w x = false

unfoldable pub same_clock : List ℕ → List ℕ → Bool
same_clock v w = both_alike v (read_reference_clock v) w (read_reference_clock w)

-- it decides the question
abbrev pub SameClockDecides : Type 0
SameClockDecides = (v w : List ℕ) → Decides (same_clock v w) (SameClock v w)
