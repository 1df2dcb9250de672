-- `roll::put_domains` meets its contract: the lines of the first numbers, one more each turn.
use Rattle.rolltext.proofs.Laws.{laws}
use Rattle.std.proofs.Common.{rules}
use Rattle.rolltext.proofs.put_domains.Goals as goal

pub loop-number-init : goal.loop-number-init
loop-number-init c = search (rules, laws)

pub put_domain-at-requires : goal.put_domain-at-requires
put_domain-at-requires c = search (rules, laws)

pub overflow_add-number : goal.overflow_add-number
overflow_add-number c = search (rules, laws)

pub loop-number-smaller : goal.loop-number-smaller
loop-number-smaller c = search (rules, laws)

pub loop-number-preserved : goal.loop-number-preserved
loop-number-preserved c = search (rules, laws)

pub returns : goal.returns
returns c = search (rules, laws)
