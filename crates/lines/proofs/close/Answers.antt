-- `lines::close` meets its contract: each refusal in its order, and then the last line and the totals.
use Rattle.lines.proofs.Laws.{laws}
use Rattle.std.proofs.Common.{rules}
use Rattle.lines.proofs.close.Goals as goal

pub returns-then-closed : goal.returns-then-closed
returns-then-closed c = search (rules, laws)

pub slice_bounds-finish_length-end : goal.slice_bounds-finish_length-end
slice_bounds-finish_length-end c = search (rules, laws)

pub finish_length-requires : goal.finish_length-requires
finish_length-requires c = search (rules, laws)

pub returns-then-room-finish_length : goal.returns-then-room-finish_length
returns-then-room-finish_length c = search (rules, laws)

pub slice_bounds-finish-end : goal.slice_bounds-finish-end
slice_bounds-finish-end c = search (rules, laws)

pub finish-done-requires : goal.finish-done-requires
finish-done-requires c = search (rules, laws)

pub returns : goal.returns
returns c = search (rules, laws)
