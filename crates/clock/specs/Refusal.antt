-- Refusals.
use Rattle.std.specs.Prelude.{ℕ}
use Rattle.text.specs.Place.{place}
use Rattle.clock.specs.declared.Refusal.{Refusal}
use Rattle.clock.specs.declared.Unmade.{Unmade}
use Rattle.clock.specs.declared.Unmade.TheVariants.{DomainOver127}

-- the number of the rule that was broken, and the n bytes from at on
abbrev pub refusal : ℕ → ℕ → ℕ → Refusal
refusal k at n = record { number = k; place = place at n }

-- the number of a constructor's refusal
abbrev pub unmade_number : Unmade → ℕ
unmade_number DomainOver127 = 10
