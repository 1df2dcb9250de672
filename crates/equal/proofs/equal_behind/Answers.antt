use Rattle.equal.specs.Private.Flat.{same_numbers}
use Rattle.equal.proofs.Laws.{laws}
use Rattle.std.proofs.Common.{rules}
use Rattle.equal.proofs.equal_behind.Goals as goal
use Rattle.equal.proofs.equal_behind.Goals.{then-eq, else-eq}

pub returns-then-equal_parts : goal.returns-then-equal_parts
unfolding same_numbers
returns-then-equal_parts c = elim c.if-eq.branch [ then-eq w ↦ search (rules, laws) | else-eq w ↦ search (rules, laws) ]

pub returns-else-equal_parts : goal.returns-else-equal_parts
unfolding same_numbers
returns-else-equal_parts c = elim c.if-eq.branch [ then-eq w ↦ search (rules, laws) | else-eq w ↦ search (rules, laws) ]
