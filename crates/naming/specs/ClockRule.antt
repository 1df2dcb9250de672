-- The rule by which ts-refclk values name clocks: what is said over any rule that meets this is said of the same-clock question.
use Rattle.std.specs.Prelude.{◌≡◌, Bool, true, false, Result, Ok, Err}
use Rattle.meaning.specs.ReferenceClock.{read_reference_clock}
use Rattle.equal.specs.Decides.{Decides}
use Rattle.questions.specs.SameClock.{SameClock}
use Rattle.questions.specs.Owed.{EqualRecords}
use Rattle.streams.specs.Rule.{Value, Rule, Lawful, Narrower}
use Rattle.naming.specs.Domain.{domain_of}
use Rattle.clock.specs.declared.ReferenceClock.{ReferenceClock}
use Rattle.clock.specs.declared.Refusal.{Refusal}

abbrev pub is_accepted : Result ReferenceClock Refusal → Bool
is_accepted (Ok c) = true
is_accepted (Err r) = false

pub record ClockRule (R : Rule) : Type 0 where
  pub accepted : (v : Value) → R.accepted v ≡ is_accepted (read_reference_clock v)
  pub same : (v w : Value) → Decides (R.same v w) (SameClock v w)
  pub domain : (v : Value) → R.domain v ≡ domain_of v

-- there is such a rule, and it sorts the accepted values into clocks. `proofs/ClockRule.antt` proves both
pub record ThereIs : Type 0 where
  pub rule : Rule
  pub meets : ClockRule rule

abbrev pub IsLawful : Type 0
IsLawful = (R : Rule) → ClockRule R → Lawful R

-- The rule of before: a clock is named by equal records, hosts byte by byte. Accepted values and domain numbers are today's
pub record RuleBefore (Q : Rule) : Type 0 where
  pub accepted : (v : Value) → Q.accepted v ≡ is_accepted (read_reference_clock v)
  pub same : (v w : Value) → Decides (Q.same v w) (EqualRecords v w)
  pub domain : (v : Value) → Q.domain v ≡ domain_of v

-- there was such a rule, it sorted the accepted values too, and today's calls the same whatever it did. `proofs/Before.antt` proves each
pub record ThereWas : Type 0 where
  pub rule : Rule
  pub meets : RuleBefore rule

abbrev pub WasLawful : Type 0
WasLawful = (Q : Rule) → RuleBefore Q → Lawful Q

abbrev pub WasNarrower : Type 0
WasNarrower = (Q R : Rule) → RuleBefore Q → ClockRule R → Narrower Q R
