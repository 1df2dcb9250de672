-- `ipaddr::count_groups` meets its contract: what is left is to be as many groups fewer as are done.
use Rattle.ipaddr.proofs.Groups.{laws}
use Rattle.std.proofs.Common.{rules}
use Rattle.ipaddr.proofs.count_groups.Goals as goal
use Rattle.ipaddr.proofs.count_groups.Goals.{else-four-via-then-four+else-is_ipv4_address, else-four-via-else-four}

pub returns-then-is_empty : goal.returns-then-is_empty
returns-then-is_empty c = search (rules, laws)

pub loop-n-init : goal.loop-n-init
loop-n-init c = search (rules, laws)

pub returns-then-not-is_h16 : goal.returns-then-not-is_h16
returns-then-not-is_h16 c = search (rules, laws)

pub loop-n-preserved : goal.loop-n-preserved
loop-n-preserved c = search (rules, laws)

pub returns-then-is_h16 : goal.returns-then-is_h16
returns-then-is_h16 c = search (rules, laws)

pub returns-then-is_ipv4_address : goal.returns-then-is_ipv4_address
returns-then-is_ipv4_address c = search (rules, laws)

pub returns-else-four : goal.returns-else-four
returns-else-four c =
    elim c.else-four.branch [
      | else-four-via-then-four+else-is_ipv4_address w ↦ search (rules, laws)
      | else-four-via-else-four w ↦ search (rules, laws)
    ]
