-- `openline::go_on` meets its contract: the fragment is run where the room is long enough, and else nothing is done.
use Rattle.openline.proofs.Laws.{laws}
use Rattle.std.proofs.Common.{rules}
use Rattle.openline.proofs.go_on.Goals as goal

pub slice_bounds-fits-end-2 : goal.slice_bounds-fits-end-2
slice_bounds-fits-end-2 c = search (rules, laws)

pub slice_bounds-fits-end-3 : goal.slice_bounds-fits-end-3
slice_bounds-fits-end-3 c = search (rules, laws)

pub fits-requires : goal.fits-requires
fits-requires c = search (rules, laws)

pub slice_bounds-run-end : goal.slice_bounds-run-end
slice_bounds-run-end c = search (rules, laws)

pub run-ran-requires : goal.run-ran-requires
run-ran-requires c = search (rules, laws)

pub returns-then-fits : goal.returns-then-fits
returns-then-fits c = search (rules, laws)

pub returns : goal.returns
returns c = search (rules, laws)
