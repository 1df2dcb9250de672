-- `utf8::sequence_length` meets its contract: the bytes that are left to a sequence settle it.
use Rattle.utf8.proofs.Laws.{Tails}
use Prim.Native.Nat.{◌-◌, ◌+◌}
use Rattle.utf8.proofs.sequence_length.Given as goal

abbrev pub invariant-loop-i : goal.invariant-loop-i
invariant-loop-i l = Tails l.s 0 l.low l.high (l.lead.more - l.i) (l.i + 1)
