-- `hosts::one_server` meets its contract: a law for each way out.
use Rattle.hosts.proofs.Laws.{laws}
use Rattle.std.proofs.Common.{rules}
use Rattle.hosts.proofs.one_server.Goals as goal
use Rattle.hosts.proofs.one_server.Goals.{in_default-via-in-None-1, in_default-via-in-Some+in-None-1}

pub returns-then-eq : goal.returns-then-eq
returns-then-eq c = search (rules, laws)

pub returns : goal.returns
returns c = search (rules, laws)

pub returns-2 : goal.returns-2
returns-2 c =
    elim c.in_default.branch [
      | in_default-via-in-None-1 w ↦ search (rules, laws)
      | in_default-via-in-Some+in-None-1 w ↦ search (rules, laws)
    ]
