-- One law for each way out of the crate's functions. Assumes nothing.
use Prim.Native.Nat.{ℕ}
use mathlib.Core.Path.{◌≡◌, refl}
use mathlib.Core.List.{List, [], ◌∷◌}
use types.Run.{OneOf, miss}
use denote.Enum.Declared.{tag_of}
use Rattle.clock.specs.declared.Ptp.{Ptp}
use Rattle.clock.specs.declared.ReferenceClock.{ReferenceClock}
use Rattle.clock.specs.declared.ReferenceClock.TheVariants as clock
use Rattle.clock.specs.contracts.ReferenceClock.{the_type}
use Rattle.naming.specs.Domain.{or_none, server_domain, domain_in}

abbrev others : List ℕ
others = 0 ∷ 2 ∷ 3 ∷ 4 ∷ 5 ∷ 6 ∷ 7 ∷ []

pub of_ptp : (x : ReferenceClock) (p : Ptp) → x ≡ clock.Ptp p → (r : ℕ) → r ≡ or_none (server_domain p.server) → r ≡ or_none (domain_in x)
unfolding domain_in
of_ptp x p f r e = simp (f, e)

-- every other kind
pub of_other : (x : ReferenceClock) → OneOf others (tag_of the_type x) → 128 ≡ or_none (domain_in x)
unfolding domain_in
of_other (clock.Ntp n) h = refl
of_other (clock.Ptp p) h = absurd (miss others 1 tt h)
of_other clock.Gps h = refl
of_other clock.Gal h = refl
of_other clock.Glonass h = refl
of_other clock.Local h = refl
of_other (clock.Private p) h = refl
of_other (clock.Ext e) h = refl

pub ruleset laws = (of_ptp, of_other)
