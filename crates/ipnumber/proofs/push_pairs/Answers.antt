-- `ipnumber::push_pairs` meets its contract: two words are pushed.
use Rattle.ipnumber.proofs.Held.{pairs_some, laws}
use Rattle.std.proofs.Common.{rules}
use Rattle.ipnumber.proofs.push_pairs.Goals as goal

pub returns-in_err-first : goal.returns-in_err-first
returns-in_err-first c = search (rules, laws)

pub returns : goal.returns
returns c =
    pairs_some c.args.w c.args.octets c.paired.result c.push.result (search rules) (search rules) c.in_ok-first.first (search rules) c.paired-2.result
    (search rules) c.push-2.result (search rules)
