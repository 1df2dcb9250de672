-- `ipnumber::group` meets its contract: the value of a group is small.
use Rattle.ipnumber.proofs.Held.{laws}
use Rattle.std.proofs.Common.{rules}
use Rattle.ipnumber.proofs.group.Goals as goal

pub returns-then-not-is_h16 : goal.returns-then-not-is_h16
returns-then-not-is_h16 c = search (rules, laws)

pub value-requires : goal.value-requires
value-requires c = search (rules, laws)

pub returns : goal.returns
returns c = search (rules, laws)
