-- `utf8::pass_ascii` meets its contract: each byte passed is a sequence.
use Rattle.utf8.proofs.Laws.{ascii_some, ascii_all}
use Rattle.utf8.proofs.pass_ascii.Goals as goal

pub returns-in-Some : goal.returns-in-Some
returns-in-Some c = ascii_some _ _ c.pass_ascii_by_eights-passed.ensures _ c.in-Some.ensures

pub returns-in-None : goal.returns-in-None
returns-in-None c = ascii_all _ _ c.pass_ascii_by_eights-passed.ensures c.in-None.ensures
