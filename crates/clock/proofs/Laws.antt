-- One law for each way out of what goes by a test or a case, its premises as the code's places give them. Assumes nothing.
use Rattle.std.specs.Prelude.{Result, Ok, Err}
use Prim.Native.Nat.{ℕ, ◌<◌, ◌≤◌}
use mathlib.Core.Path.{◌≡◌}
use lib.Dec.{ltb}
use borrow.Author.Tests.{lt-ltb, le-ltb}
use Rattle.text.specs.declared.Place.{Place}
use Rattle.text.proofs.Bools.{by_bool, clash}
use Rattle.clock.specs.Records.{ptp}
use Rattle.clock.specs.Domain.{version_for, tried, tried_ptp_domain}
use Rattle.clock.specs.declared.PtpDomain.{PtpDomain}
use Rattle.clock.specs.declared.PtpDomain.TheVariants.{DomainName, DomainNumber}
use Rattle.clock.specs.declared.PtpServer.{PtpServer}
use Rattle.clock.specs.declared.PtpVersion.TheVariants.{Ieee1588_2002, Ieee1588_2008}
use Rattle.clock.specs.declared.Ptp.{Ptp}
use Rattle.clock.specs.declared.Unmade.{Unmade}
use Rattle.clock.specs.declared.Unmade.TheVariants.{DomainOver127}

module _ (d : PtpDomain) (p : Ptp) (s : PtpServer) where
  pub version_of_name : (name : Place) → d ≡ DomainName name → p ≡ ptp Ieee1588_2002 s → p ≡ ptp (version_for d) s
  version_of_name name e h = simp e h

  pub version_of_number : (n : ℕ) → d ≡ DomainNumber n → p ≡ ptp Ieee1588_2008 s → p ≡ ptp (version_for d) s
  version_of_number n e h = simp e h

pub ruleset laws = (
  version_of_name,
  version_of_number,
)
