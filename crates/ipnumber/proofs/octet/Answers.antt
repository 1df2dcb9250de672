-- `ipnumber::octet` meets its contract: the value of an octet is small.
use Rattle.ipnumber.proofs.Held.{laws}
use Rattle.std.proofs.Common.{rules}
use Rattle.ipnumber.proofs.octet.Goals as goal

pub returns-then-not-is_dec_octet : goal.returns-then-not-is_dec_octet
returns-then-not-is_dec_octet c = search (rules, laws)

pub value-requires : goal.value-requires
value-requires c = search (rules, laws)

pub overflow_cast-result : goal.overflow_cast-result
overflow_cast-result c = search (rules, laws)

pub returns : goal.returns
returns c = search (rules, laws)
