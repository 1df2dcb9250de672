-- `lines::put_ended` meets its contract: one CR at the end is dropped.
use Rattle.lines.proofs.Laws.{laws}
use Rattle.std.proofs.Common.{rules}
use Rattle.lines.proofs.put_ended.Goals as goal

pub slice_bounds-put_line-end : goal.slice_bounds-put_line-end
slice_bounds-put_line-end c = search (rules, laws)

pub returns : goal.returns
returns c = search (rules, laws)
