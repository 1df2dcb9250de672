-- Each turn counts one frame, and it is one that was accepted, refused or asked.
use Rattle.std.proofs.Common.{◌≡◌, ◌+◌}
use Rattle.answers.proofs.answer_all.Given as goal

abbrev pub invariant-loop : goal.invariant-loop
invariant-loop g l = (l.counts.ok + l.counts.no + l.counts.asked ≡ l.counts.frames) × (l.counts.frames ≡ l.counter)
