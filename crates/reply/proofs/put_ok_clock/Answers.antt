-- `reply::put_ok_clock` meets its contract: `ok `, the text and LF are put one behind the other.
use Rattle.reply.proofs.Laws.{laws}
use Rattle.std.proofs.Common.{rules}
use Rattle.reply.proofs.put_ok_clock.Goals as goal

pub put_clock-end-requires : goal.put_clock-end-requires
put_clock-end-requires c = search (rules, laws)

pub put_byte-len-requires : goal.put_byte-len-requires
put_byte-len-requires c = search (rules, laws)

pub returns : goal.returns
returns c = search (rules, laws)
