-- Each turn counts one call.
use Rattle.std.proofs.Common.{◌≡◌}
use Rattle.fragments.proofs.answer_all.Given as goal

abbrev pub invariant-loop : goal.invariant-loop
invariant-loop g l = l.calls ≡ l.counter
