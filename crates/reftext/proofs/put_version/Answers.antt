-- `reftext::put_version` meets its contract: what each arm puts, one behind the other, is the text of that case.
use Rattle.reftext.proofs.Laws.{laws}
use Rattle.std.proofs.Common.{rules}
use Rattle.reftext.proofs.put_version.Goals as goal

pub returns-in-Ieee8021As_2011 : goal.returns-in-Ieee8021As_2011
returns-in-Ieee8021As_2011 c = search (rules, laws)
