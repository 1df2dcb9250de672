-- `reply::put_ok_source` meets its contract: `ok `, the text and LF are put one behind the other.
use Rattle.reply.proofs.Laws.{laws}
use Rattle.std.proofs.Common.{rules}
use Rattle.reply.proofs.put_ok_source.Goals as goal

pub put_source-end-requires : goal.put_source-end-requires
put_source-end-requires c = search (rules, laws)

pub put_byte-len-requires : goal.put_byte-len-requires
put_byte-len-requires c = search (rules, laws)

pub returns : goal.returns
returns c = search (rules, laws)
