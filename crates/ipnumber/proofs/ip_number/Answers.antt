-- `ipnumber::ip_number` meets its contract: four octets, or eight groups, and no address begins with a bracket or a letter behind f.
use Rattle.ipnumber.proofs.Whole.{number_six, number_laws}
use Rattle.std.proofs.Common.{rules}
use Rattle.ipnumber.proofs.ip_number.Goals as goal

pub returns-then-matches : goal.returns-then-matches
returns-then-matches c = search (rules, number_laws)

pub returns-in-Some : goal.returns-in-Some
returns-in-Some c = search (rules, number_laws)

pub returns-in_err-words : goal.returns-in_err-words
returns-in_err-words c = search (rules, number_laws)

pub returns : goal.returns
returns c =
    number_six c.args.s.now c.read_octets.result c.read_octets.ensures (search rules) c.read_six.result c.read_six.ensures c.in_ok-words.words
    c.in_ok-words.was
