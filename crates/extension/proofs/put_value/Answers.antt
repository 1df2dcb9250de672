-- `extension::put_value` meets its contract: what each arm puts, one behind the other, is the text of that case.
use Rattle.extension.proofs.Laws.{laws}
use Rattle.std.proofs.Common.{rules}
use Rattle.extension.proofs.put_value.Goals as goal

pub returns-in-Some : goal.returns-in-Some
returns-in-Some c = search (rules, laws)
