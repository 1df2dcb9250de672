-- `digits::put_hex_bytes` meets its contract: what the bytes passed put is put.
use Rattle.digits.proofs.Laws.{HexPut}
use Rattle.digits.proofs.put_hex_bytes.Given as goal

abbrev pub invariant-loop-b : goal.invariant-loop-b
invariant-loop-b l = HexPut l.initial.room l.at l.src l.b-index l.to l.room
