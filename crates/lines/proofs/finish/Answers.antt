-- `lines::finish` meets its contract: the last line, where there is one, and the totals.
use Rattle.lines.proofs.Laws.{laws}
use Rattle.std.proofs.Common.{rules}
use Rattle.lines.proofs.finish.Goals as goal

pub returns-then-last-eq0 : goal.returns-then-last-eq0
returns-then-last-eq0 c = search (rules, laws)

pub put_totals-end-requires-2 : goal.put_totals-end-requires-2
put_totals-end-requires-2 c = search (rules, laws)

pub returns : goal.returns
returns c = search (rules, laws)
