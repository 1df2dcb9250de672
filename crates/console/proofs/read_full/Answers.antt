use Rattle.std.proofs.Common.{rules}
use Rattle.console.proofs.Moves.{more_read}
use Rattle.console.proofs.read_full.Goals as goal

pub loop-done-preserved : goal.loop-done-preserved
loop-done-preserved g c =
    (search rules, more_read _ _ _ _ _ _ _ c.read_behind.ensures.front c.loop-done.invariant.1 c.in_ok-n.ensures.bytes)
