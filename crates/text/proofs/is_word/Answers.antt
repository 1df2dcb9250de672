-- `text::is_word` meets its contract: as many bytes, and each of the one is that of the other.
use Rattle.std.proofs.Common.{rules}
use borrow.Author.Tests.{tests}
use Rattle.std.proofs.lemmas.Iterator.{same_from_all, YieldsList-from_slice, YieldsList-from_zip}
use Rattle.text.proofs.Laws.{same_decided, laws}
use Rattle.text.proofs.is_word.Goals as goal

pub returns-then-s-w : goal.returns-then-s-w
returns-then-s-w c =
    let s = c.args.s.now in
    let w = c.args.w.now in
    same_decided s w _
    (same_from_all c.all.new.self _ c.all.result s w c.all.ensures.ran
    (YieldsList-from_zip (YieldsList-from_slice s (cc)) (YieldsList-from_slice w c.zip.ensures.second.0))
    (cc) (λ x q k. search (rules, tests)) (λ x q k. search (rules, tests)))

pub returns-else-s-w : goal.returns-else-s-w
returns-else-s-w c = search (rules, tests, laws)
