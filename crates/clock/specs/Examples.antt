-- What the definitions say of domain numbers at the edges.
use Rattle.std.specs.Prelude.{refl, [], ◌∷◌, Ok, Err}
use Rattle.text.specs.Example.{◌gives◌, Each}
use Rattle.clock.specs.Domain.{tried, tried_ptp_domain}
use Rattle.clock.specs.declared.PtpDomain.TheVariants.{DomainNumber}
use Rattle.clock.specs.declared.Unmade.TheVariants.{DomainOver127}

numbers : Each tried_ptp_domain (
    0 gives Ok (DomainNumber 0)
    ∷ 127 gives Ok (DomainNumber 127)
    ∷ 128 gives Err DomainOver127
    ∷ 255 gives Err DomainOver127
    ∷ [])
unfolding tried
numbers = refl
