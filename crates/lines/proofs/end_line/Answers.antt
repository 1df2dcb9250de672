-- `lines::end_line` meets its contract: a plain line is one with its CR and without, and the first 4,098 bytes of a line decide.
use Rattle.lines.proofs.Laws.{laws}
use Rattle.std.proofs.Common.{rules}
use Rattle.lines.proofs.end_line.Goals as goal

pub returns-then-is_plain : goal.returns-then-is_plain
returns-then-is_plain c = search (rules, laws)

pub returns-then-len-eq0 : goal.returns-then-len-eq0
returns-then-len-eq0 c = search (rules, laws)

pub slice_bounds-put_ended-end-2 : goal.slice_bounds-put_ended-end-2
slice_bounds-put_ended-end-2 c = search (rules, laws)

pub returns : goal.returns
returns c = search (rules, laws)
