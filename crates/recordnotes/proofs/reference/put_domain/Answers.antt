-- `recordnotes::reference::put_domain` meets its contract: a case each.
use Rattle.recordnotes.proofs.ReferenceLaws.{laws}
use Rattle.std.proofs.Common.{rules}
use Rattle.recordnotes.proofs.reference.put_domain.Goals as goal

pub returns-in-DomainName : goal.returns-in-DomainName
returns-in-DomainName c = search (rules, laws)

pub returns-in-DomainNumber : goal.returns-in-DomainNumber
returns-in-DomainNumber c = search (rules, laws)
