-- `valueline::line_of_reference_clock` meets its contract: a case each.
use Rattle.valueline.proofs.Laws.{laws}
use Rattle.std.proofs.Common.{rules}
use Rattle.valueline.proofs.line_of_reference_clock.Goals as goal

pub line_of_clock-requires : goal.line_of_clock-requires
line_of_clock-requires c = search (rules, laws)

pub returns-in-Ok : goal.returns-in-Ok
returns-in-Ok c = search (rules, laws)

pub returns-in-Err : goal.returns-in-Err
returns-in-Err c = search (rules, laws)
