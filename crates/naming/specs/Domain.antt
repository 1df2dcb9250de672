-- The PTP domain number of a clock: one that is given as a number. A domain's name is none.
use Rattle.std.specs.Prelude.{ℕ, List, Result, Option, Some, None, Ok, Err}
use Rattle.clock.specs.declared.PtpDomain.TheVariants.{DomainName, DomainNumber}
use Rattle.clock.specs.declared.PtpServer.{PtpServer}
use Rattle.clock.specs.declared.PtpServer.TheVariants as source
use Rattle.clock.specs.declared.ReferenceClock.{ReferenceClock}
use Rattle.clock.specs.declared.ReferenceClock.TheVariants as clock
use Rattle.meaning.specs.ReferenceClock.{read_reference_clock}
use Rattle.clock.specs.declared.Refusal.{Refusal}
use Rattle.clock.specs.declared.PtpDomain.{PtpDomain}

abbrev pub number_in : Option PtpDomain → Option ℕ
number_in None = None
number_in (Some (DomainName p)) = None
number_in (Some (DomainNumber n)) = Some n

abbrev pub server_domain : PtpServer → Option ℕ
server_domain (source.GmidDomain g d) = number_in d
server_domain source.Traceable = None

unfoldable pub domain_in : ReferenceClock → Option ℕ
domain_in (clock.Ntp n) = None
domain_in (clock.Ptp p) = server_domain p.server
domain_in clock.Gps = None
domain_in clock.Gal = None
domain_in clock.Glonass = None
domain_in clock.Local = None
domain_in (clock.Private p) = None
domain_in (clock.Ext e) = None

-- as a number: 128, which is no domain number, where there is none
abbrev pub or_none : Option ℕ → ℕ
or_none None = 128
or_none (Some n) = n

-- that of the clock which a value names; a refused value names none
abbrev pub read_domain : Result ReferenceClock Refusal → Option ℕ
read_domain (Ok c) = domain_in c
read_domain (Err r) = None

unfoldable pub domain_of : List ℕ → Option ℕ
domain_of v = read_domain (read_reference_clock v)
