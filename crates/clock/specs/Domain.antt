-- PTP domains: the version that each kind belongs to, and the constructors that try a number.
use Rattle.std.specs.Prelude.{ℕ, cond, ltb, Result, Some, Ok, Err}
use Rattle.clock.specs.Records.{ptp}
use Rattle.clock.specs.declared.Eui64.{Eui64}
use Rattle.clock.specs.declared.PtpDomain.{PtpDomain}
use Rattle.clock.specs.declared.PtpDomain.TheVariants.{DomainName, DomainNumber}
use Rattle.clock.specs.declared.PtpServer.TheVariants.{GmidDomain}
use Rattle.clock.specs.declared.PtpVersion.{PtpVersion}
use Rattle.clock.specs.declared.PtpVersion.TheVariants.{Ieee1588_2002, Ieee1588_2008}
use Rattle.clock.specs.declared.ReferenceClock.TheVariants.{Ptp as PtpClock}
use Rattle.clock.specs.declared.Unmade.{Unmade}
use Rattle.clock.specs.declared.Unmade.TheVariants.{DomainOver127}
use Rattle.clock.specs.declared.PtpServer.{PtpServer}
use Rattle.clock.specs.declared.Ptp.{Ptp}
use Rattle.clock.specs.declared.ReferenceClock.{ReferenceClock}

-- a name is of IEEE 1588-2002, a number of IEEE 1588-2008
abbrev pub version_for : PtpDomain → PtpVersion
version_for (DomainName name) = Ieee1588_2002
version_for (DomainNumber n) = Ieee1588_2008

-- what is made of a domain's number from 0 to 127; over that the number is refused
unfoldable pub tried : {A : Type 0} → (PtpDomain → A) → ℕ → Result A Unmade
tried made n = cond (ltb 127 n) (Err DomainOver127) (Ok (made (DomainNumber n)))

abbrev pub tried_ptp_domain : ℕ → Result PtpDomain Unmade
tried_ptp_domain = tried (λ d. d)

abbrev pub tried_ptp_server : Eui64 → ℕ → Result PtpServer Unmade
tried_ptp_server gmid = tried (λ d. GmidDomain gmid (Some d))

abbrev pub tried_ptp : Eui64 → ℕ → Result Ptp Unmade
tried_ptp gmid = tried (λ d. ptp (version_for d) (GmidDomain gmid (Some d)))

abbrev pub tried_reference_clock : Eui64 → ℕ → Result ReferenceClock Unmade
tried_reference_clock gmid = tried (λ d. PtpClock (ptp (version_for d) (GmidDomain gmid (Some d))))
