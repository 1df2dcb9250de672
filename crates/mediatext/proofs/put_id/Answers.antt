-- `mediatext::put_id` meets its contract: what each arm puts, one behind the other, is the text of that case.
use Rattle.mediatext.proofs.Laws.{laws}
use Rattle.std.proofs.Common.{rules}
use Rattle.mediatext.proofs.put_id.Goals as goal

pub returns-in-Some : goal.returns-in-Some
returns-in-Some c = search (rules, laws)
