-- `briefreply::say` meets its contract: where the text does not fit nothing is put, and where it fits the put leaves it at the front.
use Rattle.briefreply.proofs.Laws.{laws}
use Rattle.std.proofs.Common.{rules}
use Rattle.briefreply.proofs.say.Goals as goal

pub returns-then-len-room : goal.returns-then-len-room
returns-then-len-room c = search (rules, laws)

pub returns-else-len-room : goal.returns-else-len-room
returns-else-len-room c = search (rules, laws)
