-- `refclk::read_word` meets its contract: one law for each way out, in the order of the tests.
use Rattle.refclk.proofs.Laws.{laws}
use Rattle.std.proofs.Common.{rules}
use Rattle.refclk.proofs.read_word.Goals as goal

pub returns-then-is_word : goal.returns-then-is_word
returns-then-is_word c = search (rules, laws)

pub returns-then-is_word-2 : goal.returns-then-is_word-2
returns-then-is_word-2 c = search (rules, laws)

pub returns-then-is_word-3 : goal.returns-then-is_word-3
returns-then-is_word-3 c = search (rules, laws)

pub returns-then-is_word-4 : goal.returns-then-is_word-4
returns-then-is_word-4 c = search (rules, laws)

pub returns-then-is_word-5 : goal.returns-then-is_word-5
returns-then-is_word-5 c = search (rules, laws)

pub returns-then-is_word-6 : goal.returns-then-is_word-6
returns-then-is_word-6 c = search (rules, laws)

pub returns : goal.returns
returns c = search (rules, laws)
