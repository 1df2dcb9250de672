-- `digits::put_hex_u64` meets its contract: the digits of n are those of what is left and then those that are made.
use Rattle.digits.proofs.Laws.{InHex}
use Rattle.digits.proofs.put_hex_u64.Given as goal

abbrev pub invariant-loop-place : goal.invariant-loop-place
invariant-loop-place l = InHex l.n l.digits l.place l.left
