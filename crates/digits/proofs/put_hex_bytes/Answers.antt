-- `digits::put_hex_bytes` meets its contract: what the bytes passed put is put.
use Rattle.digits.proofs.Laws.{laws}
use Rattle.std.proofs.Common.{rules}
use Rattle.digits.proofs.put_hex_bytes.Goals as goal

pub loop-b-init : goal.loop-b-init
loop-b-init c = search (rules, laws)

pub loop-b-preserved : goal.loop-b-preserved
loop-b-preserved c = search (rules, laws)
