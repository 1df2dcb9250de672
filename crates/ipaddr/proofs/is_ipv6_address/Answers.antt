-- `ipaddr::is_ipv6_address` meets its contract: the place of the first "::" and the groups on its sides settle the nine forms.
use Rattle.ipaddr.proofs.Six.{laws}
use Rattle.std.proofs.Common.{rules}
use Rattle.ipaddr.proofs.is_ipv6_address.Goals as goal

pub returns-then-s-gap : goal.returns-then-s-gap
returns-then-s-gap c = search (rules, laws)

pub returns-in_default : goal.returns-in_default
returns-in_default c = search (rules, laws)

pub slice_bounds-count_groups-count : goal.slice_bounds-count_groups-count
slice_bounds-count_groups-count c = search (rules, laws)

pub slice_bounds-count_groups-start : goal.slice_bounds-count_groups-start
slice_bounds-count_groups-start c = search (rules, laws)

pub returns-in_default-count_groups : goal.returns-in_default-count_groups
returns-in_default-count_groups c = search (rules, laws)

pub returns-then-right-le7 : goal.returns-then-right-le7
returns-then-right-le7 c = search (rules, laws)

pub returns-else-right-le7 : goal.returns-else-right-le7
returns-else-right-le7 c = search (rules, laws)
