-- `ipnumber::no_words` meets its contract: no number, and zeros.
use Rattle.ipnumber.proofs.Held.{laws}
use Rattle.std.proofs.Common.{rules}
use Rattle.ipnumber.proofs.no_words.Goals as goal

pub returns : goal.returns
returns c = search (rules, laws)
