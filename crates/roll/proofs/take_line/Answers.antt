-- `roll::take_line` meets its contract: one law for each kind of line, in the order of the tests.
use Rattle.roll.proofs.Laws.{laws}
use Rattle.std.proofs.Common.{rules}
use Rattle.roll.proofs.take_line.Goals as goal

pub returns-then-line-gt-MOST_LINE_BYTES : goal.returns-then-line-gt-MOST_LINE_BYTES
returns-then-line-gt-MOST_LINE_BYTES c = search (rules, laws)

pub slice_bounds-take_stream-count : goal.slice_bounds-take_stream-count
slice_bounds-take_stream-count c = search (rules, laws)

pub slice_bounds-take_stream-start : goal.slice_bounds-take_stream-start
slice_bounds-take_stream-start c = search (rules, laws)

pub returns-then-has_prefix : goal.returns-then-has_prefix
returns-then-has_prefix c = search (rules, laws)

pub returns : goal.returns
returns c = search (rules, laws)
