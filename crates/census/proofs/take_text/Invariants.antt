-- Each turn reads a byte at least, and no more than a text may have.
use Rattle.std.proofs.Common.{◌+◌, ◌≤◌}
use Rattle.std.specs.Io.Take.{take_limit}
use Rattle.census.proofs.take_text.Given as goal

abbrev pub invariant-loop : goal.invariant-loop
invariant-loop g l = take_limit l.input + l.counter ≤ 4294967295
