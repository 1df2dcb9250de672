-- `clock::Ptp::from_gmid_with_domain` meets its contract: each arm knows the kind of domain, and so its version.
use Rattle.clock.proofs.Laws.{laws}
use Rattle.std.proofs.Common.{rules}
use Rattle.clock.proofs.Ptp.from_gmid_with_domain.Goals as goal

pub returns-in-DomainName : goal.returns-in-DomainName
returns-in-DomainName c = search (rules, laws)

pub returns-in-DomainNumber : goal.returns-in-DomainNumber
returns-in-DomainNumber c = search (rules, laws)
