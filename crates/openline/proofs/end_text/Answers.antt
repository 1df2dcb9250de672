-- `openline::end_text` meets its contract: the last line and the totals, where the room is long enough.
use Rattle.openline.proofs.Laws.{laws}
use Rattle.std.proofs.Common.{rules}
use Rattle.openline.proofs.end_text.Goals as goal

pub slice_bounds-finish_length-end : goal.slice_bounds-finish_length-end
slice_bounds-finish_length-end c = search (rules, laws)

pub finish_length-requires : goal.finish_length-requires
finish_length-requires c = search (rules, laws)

pub returns-then-room-finish_length : goal.returns-then-room-finish_length
returns-then-room-finish_length c = search (rules, laws)

pub slice_bounds-finish-end : goal.slice_bounds-finish-end
slice_bounds-finish-end c = search (rules, laws)

pub finish-done-requires : goal.finish-done-requires
finish-done-requires c = search (rules, laws)

pub returns : goal.returns
returns c = search (rules, laws)
