use Rattle.std.proofs.Common.{rules}
use Rattle.console.proofs.Moves.{more_written}
use Rattle.console.proofs.write_all.Goals as goal

pub loop-done-preserved : goal.loop-done-preserved
loop-done-preserved g c =
    (search rules, more_written _ _ _ _ _ _ c.loop-done.invariant.1 c.in_ok-n.ensures.bytes)
