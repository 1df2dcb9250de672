-- `stream::read_stream` meets its contract: the EUI-64 and its fault are a law each, and a fault's place fits since it lies inside the text.
use Rattle.stream.proofs.Laws.{laws}
use Rattle.std.proofs.Common.{rules}
use Rattle.stream.proofs.read_stream.Goals as goal

pub overflow_add-start : goal.overflow_add-start
overflow_add-start c = search (rules, laws)

pub returns-in-Ok : goal.returns-in-Ok
returns-in-Ok c = search (rules, laws)

pub returns-in-Err : goal.returns-in-Err
returns-in-Err c = search (rules, laws)
