-- `valueline::line_of_source` meets its contract: the two parts that are handed on are the notation and the text.
use Rattle.valueline.proofs.Laws.{laws}
use Rattle.std.proofs.Common.{rules}
use Rattle.valueline.proofs.line_of_source.Goals as goal

pub ok_line-requires : goal.ok_line-requires
ok_line-requires c = search (rules, laws)

pub returns : goal.returns
returns c = search (rules, laws)
