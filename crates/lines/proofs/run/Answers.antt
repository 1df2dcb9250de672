-- `lines::run` meets its contract: what is settled of all of the fragment is settled by what is left of it.
use Rattle.lines.proofs.Laws.{run_fits, laws}
use Rattle.std.proofs.Common.{rules}
use Rattle.lines.proofs.run.Goals as goal

pub loop-e-init : goal.loop-e-init
loop-e-init c = search (rules, laws)

pub slice_bounds-find_far-count : goal.slice_bounds-find_far-count
slice_bounds-find_far-count c = search (rules, laws)

pub slice_bounds-find_far-start : goal.slice_bounds-find_far-start
slice_bounds-find_far-start c = search (rules, laws)

pub slice_bounds-find_far-end : goal.slice_bounds-find_far-end
slice_bounds-find_far-end c = search (rules, laws)

pub find_far-requires : goal.find_far-requires
find_far-requires c = search (rules, laws)

pub overflow_add-e : goal.overflow_add-e
overflow_add-e c = search (rules, laws)

pub slice_bounds-end_line-count : goal.slice_bounds-end_line-count
slice_bounds-end_line-count c = search (rules, laws)

pub slice_bounds-end_line-start : goal.slice_bounds-end_line-start
slice_bounds-end_line-start c = search (rules, laws)

pub slice_bounds-end_line-end : goal.slice_bounds-end_line-end
slice_bounds-end_line-end c = search (rules, laws)

pub end_line-answered-requires : goal.end_line-answered-requires
end_line-answered-requires c = search (rules, laws)

-- by this law alone: with the others beside it the search takes too many steps
pub overflow_add-at : goal.overflow_add-at
overflow_add-at c = search run_fits

pub count-totals-requires : goal.count-totals-requires
count-totals-requires c = search (rules, laws)

pub overflow_add-i : goal.overflow_add-i
overflow_add-i c = search (rules, laws)

pub loop-e-smaller : goal.loop-e-smaller
loop-e-smaller c = search (rules, laws)

pub loop-e-preserved : goal.loop-e-preserved
loop-e-preserved c = search (rules, laws)

pub slice_bounds-keep-count : goal.slice_bounds-keep-count
slice_bounds-keep-count c = search (rules, laws)

pub slice_bounds-keep-start : goal.slice_bounds-keep-start
slice_bounds-keep-start c = search (rules, laws)

pub slice_bounds-keep-end : goal.slice_bounds-keep-end
slice_bounds-keep-end c = search (rules, laws)

pub keep-n-requires : goal.keep-n-requires
keep-n-requires c = search (rules, laws)

pub returns : goal.returns
returns c = search (rules, laws)
