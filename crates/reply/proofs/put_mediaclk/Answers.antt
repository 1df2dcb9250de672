-- `reply::put_mediaclk` meets its contract: what was read is answered, accepted or refused.
use Rattle.reply.proofs.Laws.{laws}
use Rattle.std.proofs.Common.{rules}
use Rattle.reply.proofs.put_mediaclk.Goals as goal

pub put_ok_source-requires : goal.put_ok_source-requires
put_ok_source-requires c = search (rules, laws)

pub returns-in-Ok : goal.returns-in-Ok
returns-in-Ok c = search (rules, laws)

pub returns-in-Err : goal.returns-in-Err
returns-in-Err c = search (rules, laws)
