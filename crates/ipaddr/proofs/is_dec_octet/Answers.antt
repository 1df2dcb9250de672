-- `ipaddr::is_dec_octet` meets its contract: a law for each pattern, and one for a text that fits none.
use Rattle.ipaddr.proofs.Four.{octet_laws}
use Rattle.std.proofs.Common.{rules}
use Rattle.ipaddr.proofs.is_dec_octet.Goals as goal

pub returns-in-48-to-57 : goal.returns-in-48-to-57
returns-in-48-to-57 c = search (rules, octet_laws)

pub returns-in-49-to-57 : goal.returns-in-49-to-57
returns-in-49-to-57 c = search (rules, octet_laws)

pub returns-in-49 : goal.returns-in-49
returns-in-49 c = search (rules, octet_laws)

pub returns-in-50-2 : goal.returns-in-50-2
returns-in-50-2 c = search (rules, octet_laws)

pub returns-in-50 : goal.returns-in-50
returns-in-50 c = search (rules, octet_laws)

pub returns-in_default : goal.returns-in_default
returns-in_default c = search (rules, octet_laws)

pub returns-in_default-2 : goal.returns-in_default-2
returns-in_default-2 c = search (rules, octet_laws)

pub returns-in_default-3 : goal.returns-in_default-3
returns-in_default-3 c = search (rules, octet_laws)

pub returns-in_default-4 : goal.returns-in_default-4
returns-in_default-4 c = search (rules, octet_laws)

pub returns-in_default-5 : goal.returns-in_default-5
returns-in_default-5 c = search (rules, octet_laws)

pub returns-in_default-6 : goal.returns-in_default-6
returns-in_default-6 c = search (rules, octet_laws)

pub returns-in_default-7 : goal.returns-in_default-7
returns-in_default-7 c = search (rules, octet_laws)

pub returns-in_default-8 : goal.returns-in_default-8
returns-in_default-8 c = search (rules, octet_laws)

pub returns-in_default-9 : goal.returns-in_default-9
returns-in_default-9 c = search (rules, octet_laws)

pub returns-in_default-10 : goal.returns-in_default-10
returns-in_default-10 c = search (rules, octet_laws)

pub returns-in_default-11 : goal.returns-in_default-11
returns-in_default-11 c = search (rules, octet_laws)

pub returns-in_default-12 : goal.returns-in_default-12
returns-in_default-12 c = search (rules, octet_laws)

pub returns-in_default-13 : goal.returns-in_default-13
returns-in_default-13 c = search (rules, octet_laws)

pub returns-in_default-14 : goal.returns-in_default-14
returns-in_default-14 c = search (rules, octet_laws)

pub returns-in_default-15 : goal.returns-in_default-15
returns-in_default-15 c = search (rules, octet_laws)

pub returns-in_default-16 : goal.returns-in_default-16
returns-in_default-16 c = search (rules, octet_laws)

pub returns-in_default-17 : goal.returns-in_default-17
returns-in_default-17 c = search (rules, octet_laws)

pub returns-in_default-18 : goal.returns-in_default-18
returns-in_default-18 c = search (rules, octet_laws)

pub returns-in_default-19 : goal.returns-in_default-19
returns-in_default-19 c = search (rules, octet_laws)
