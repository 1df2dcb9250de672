-- `ipnumber::read_groups` meets its contract: the groups before the place are held.
use Rattle.ipnumber.proofs.Groups.{groups_bad, groups_full, group_laws}
use Rattle.std.proofs.Common.{rules, arith}
use Rattle.ipnumber.proofs.read_groups.Goals as goal

pub returns-then-is_empty : goal.returns-then-is_empty
returns-then-is_empty c = search (rules, group_laws)

pub loop-n-init : goal.loop-n-init
loop-n-init c = search (rules, group_laws)

pub returns-in_err-x : goal.returns-in_err-x
returns-in_err-x c =
    groups_bad c.loop-n.invariant (omega arith) c.group.result c.group.ensures c.in_err-x.was c.from_residual.result c.from_residual.ensures

pub returns-in_err-w : goal.returns-in_err-w
returns-in_err-w c =
    groups_full c.loop-n.invariant (omega arith) c.group.result c.group.ensures c.in_ok-x.x c.in_ok-x.was c.push.result c.push.ensures c.in_err-w.was
    c.from_residual-in_err-w.result c.from_residual-in_err-w.ensures

pub loop-n-preserved : goal.loop-n-preserved
loop-n-preserved c = search (rules, group_laws)

pub returns : goal.returns
returns c = search (rules, group_laws)
