-- `reply::put_reply` meets its contract: one law for each kind of line, in the order of the tests.
use Rattle.reply.proofs.Laws.{laws}
use Rattle.std.proofs.Common.{rules}
use Rattle.reply.proofs.put_reply.Goals as goal

pub returns-then-line-gt-MOST_LINE_BYTES : goal.returns-then-line-gt-MOST_LINE_BYTES
returns-then-line-gt-MOST_LINE_BYTES c = search (rules, laws)

pub slice_bounds-put_ts_refclk-count : goal.slice_bounds-put_ts_refclk-count
slice_bounds-put_ts_refclk-count c = search (rules, laws)

pub slice_bounds-put_ts_refclk-start : goal.slice_bounds-put_ts_refclk-start
slice_bounds-put_ts_refclk-start c = search (rules, laws)

pub returns-then-has_prefix : goal.returns-then-has_prefix
returns-then-has_prefix c = search (rules, laws)

pub slice_bounds-put_mediaclk-count : goal.slice_bounds-put_mediaclk-count
slice_bounds-put_mediaclk-count c = search (rules, laws)

pub slice_bounds-put_mediaclk-start : goal.slice_bounds-put_mediaclk-start
slice_bounds-put_mediaclk-start c = search (rules, laws)

pub returns-then-has_prefix-2 : goal.returns-then-has_prefix-2
returns-then-has_prefix-2 c = search (rules, laws)

pub returns : goal.returns
returns c = search (rules, laws)
