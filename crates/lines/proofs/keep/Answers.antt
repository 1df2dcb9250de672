-- `lines::keep` meets its contract: what has no room in the memory would not be stored anyway.
use Rattle.lines.proofs.Laws.{laws}
use Rattle.std.proofs.Common.{rules}
use Rattle.lines.proofs.keep.Goals as goal

pub slice_bounds-put_bytes-end : goal.slice_bounds-put_bytes-end
slice_bounds-put_bytes-end c = search (rules, laws)

pub put_bytes-requires : goal.put_bytes-requires
put_bytes-requires c = search (rules, laws)

pub returns : goal.returns
returns c = search (rules, laws)
