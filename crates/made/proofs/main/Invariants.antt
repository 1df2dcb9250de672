-- No more records are counted than frames, and each turn counts a frame.
use Rattle.std.proofs.Common.{◌≡◌, ◌≤◌}
use Rattle.made.proofs.main.Given as goal

abbrev pub invariant-loop : goal.invariant-loop
invariant-loop l = (l.records ≤ l.frames) × (l.frames ≡ l.counter)
