-- `valueline::line_of_media_clock_source` meets its contract: a case each.
use Rattle.valueline.proofs.Laws.{laws}
use Rattle.std.proofs.Common.{rules}
use Rattle.valueline.proofs.line_of_media_clock_source.Goals as goal

pub line_of_source-requires : goal.line_of_source-requires
line_of_source-requires c = search (rules, laws)

pub returns-in-Ok : goal.returns-in-Ok
returns-in-Ok c = search (rules, laws)

pub returns-in-Err : goal.returns-in-Err
returns-in-Err c = search (rules, laws)
