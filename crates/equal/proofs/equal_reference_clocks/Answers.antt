use Rattle.equal.proofs.Laws.{laws}
use Rattle.std.proofs.Common.{rules}
use Rattle.equal.proofs.equal_reference_clocks.Goals as goal

pub returns-then-equal_parts : goal.returns-then-equal_parts
returns-then-equal_parts c = search (rules, laws)

pub returns-else-equal_parts : goal.returns-else-equal_parts
returns-else-equal_parts c = search (rules, laws)
