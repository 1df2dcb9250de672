-- `reply::put_ts_refclk` meets its contract: what was read is answered, accepted or refused.
use Rattle.reply.proofs.Laws.{laws}
use Rattle.std.proofs.Common.{rules}
use Rattle.reply.proofs.put_ts_refclk.Goals as goal

pub put_ok_clock-requires : goal.put_ok_clock-requires
put_ok_clock-requires c = search (rules, laws)

pub returns-in-Ok : goal.returns-in-Ok
returns-in-Ok c = search (rules, laws)

pub returns-in-Err : goal.returns-in-Err
returns-in-Err c = search (rules, laws)
