-- Demand 1 holds of every call of either writer, by what `meaning` says of writing. Assumes nothing.
use mathlib.Core.Path.{sym, ◌∙◌}
use lib.ListN.{length}
use Rattle.meaning.proofs.Demand1.{writing_numbered, writing_leaves}
use Rattle.writing.specs.Demand1.{WritesSettled, WritesNumbered, WritesLeave}

pub writes_settled : WritesSettled
writes_settled v inside t room answer other after later p q = (p.says ∙ sym q.says, p.leaves ∙ sym q.leaves)

pub writes_numbered : WritesNumbered
writes_numbered v inside t room answer after p = rw p.says (writing_numbered v inside t (length room))

pub writes_leave : WritesLeave
writes_leave v inside t room answer after p = rw (p.says, p.leaves) (writing_leaves v inside t room)
