-- `equal::prints::host_print` meets its contract.
use Rattle.equal.proofs.PrintLaws.{laws}
use Rattle.std.proofs.Common.{rules}
use Rattle.equal.proofs.prints.host_print.Goals as goal

pub returns : goal.returns
returns c = search (rules, laws)
