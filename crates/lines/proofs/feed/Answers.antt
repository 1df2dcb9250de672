-- `lines::feed` meets its contract: each refusal in its order, and then the run.
use Rattle.lines.proofs.Laws.{laws}
use Rattle.std.proofs.Common.{rules}
use Rattle.lines.proofs.feed.Goals as goal

pub returns-then-closed : goal.returns-then-closed
returns-then-closed c = search (rules, laws)

pub returns-then-all-gt-MOST_READ : goal.returns-then-all-gt-MOST_READ
returns-then-all-gt-MOST_READ c = search (rules, laws)

pub slice_bounds-fits-end-2 : goal.slice_bounds-fits-end-2
slice_bounds-fits-end-2 c = search (rules, laws)

pub fits-requires : goal.fits-requires
fits-requires c = search (rules, laws)

pub returns-then-fits : goal.returns-then-fits
returns-then-fits c = search (rules, laws)

pub returns : goal.returns
returns c = search (rules, laws)
