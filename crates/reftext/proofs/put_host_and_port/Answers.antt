-- `reftext::put_host_and_port` meets its contract: a colon that is found decides on the brackets, as in the definition.
use Rattle.reftext.proofs.Laws.{laws}
use Rattle.std.proofs.Common.{rules}
use Rattle.reftext.proofs.put_host_and_port.Goals as goal

pub returns-then-find-host : goal.returns-then-find-host
returns-then-find-host c = search (rules, laws)

pub returns : goal.returns
returns c = search (rules, laws)
