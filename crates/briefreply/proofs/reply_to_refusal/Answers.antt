-- `briefreply::reply_to_refusal` meets its contract: the front of the array is the reply, and it is said.
use Rattle.briefreply.proofs.Laws.{laws}
use Rattle.std.proofs.Common.{rules}
use Rattle.briefreply.proofs.reply_to_refusal.Goals as goal

pub slice_bounds-say-end : goal.slice_bounds-say-end
slice_bounds-say-end c = search (rules, laws)

pub say-requires : goal.say-requires
say-requires c = search (rules, laws)

pub returns : goal.returns
returns c = search (rules, laws)
