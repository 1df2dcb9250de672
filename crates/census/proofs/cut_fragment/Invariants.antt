-- Each turn passes a byte at least, the LF of its line.
use Rattle.std.proofs.Common.{◌+◌, ◌≤◌, length}
use Rattle.census.proofs.cut_fragment.Given as goal

abbrev pub invariant-loop : goal.invariant-loop
invariant-loop l = length l.rest + l.counter ≤ length l.text
