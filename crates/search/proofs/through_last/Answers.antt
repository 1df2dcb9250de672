-- `search::through_last` meets its contract: behind the last b stands none.
use Rattle.search.proofs.Laws.{last_is}
use Rattle.search.proofs.through_last.Goals as goal

pub returns-in-Some : goal.returns-in-Some
returns-in-Some c = last_is _ _ _ c.in-Some.ensures
