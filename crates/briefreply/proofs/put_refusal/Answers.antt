-- `briefreply::put_refusal` meets its contract: four puts, whose texts joined are the reply.
use Rattle.briefreply.proofs.Laws.{laws}
use Rattle.std.proofs.Common.{rules}
use Rattle.briefreply.proofs.put_refusal.Goals as goal

pub returns : goal.returns
returns c = search (rules, laws)
