-- `ipaddr::is_h16` meets its contract: after the lengths, the digits decide.
use Rattle.ipaddr.proofs.Groups.{h16_hex, h16_laws}
use Rattle.std.proofs.Common.{rules, arith}
use Rattle.std.proofs.lemmas.Iterator.{YieldsList-from_slice}
use Rattle.std.proofs.lemmas.Iterator.Search.{all_from_yields_List}
use Rattle.number.specs.Hex.{hex_digit}
use Rattle.ipaddr.proofs.is_h16.Goals as goal
use lib.Dec.{ltb}

pub returns-in-1-to-4 : goal.returns-in-1-to-4
returns-in-1-to-4 c =
    h16_hex c.args.s.now c.all.result (omega arith) (omega arith)
    (all_from_yields_List (λ x. ltb (hex_digit x) 16) _ _ _ c.all.ensures.ran (YieldsList-from_slice c.args.s.now (cc)) (λ x b q k. search rules))

pub returns-in_default : goal.returns-in_default
returns-in_default c = search (rules, h16_laws)

pub returns-in_default-2 : goal.returns-in_default-2
returns-in_default-2 c = search (rules, h16_laws)
