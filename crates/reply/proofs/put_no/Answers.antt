-- `reply::put_no` meets its contract: the text of a refusal is no longer than an answer may be.
use Rattle.reply.proofs.Laws.{laws}
use Rattle.std.proofs.Common.{rules}
use Rattle.reply.proofs.put_no.Goals as goal

pub returns : goal.returns
returns c = search (rules, laws)
