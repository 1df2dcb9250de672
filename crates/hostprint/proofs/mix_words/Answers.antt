-- `hostprint::mix_words` meets its contract: each word is mixed as it stands.
use Rattle.std.proofs.Common.{rules}
use Rattle.std.proofs.lemmas.Iterator.{YieldsList-from_slice}
use Rattle.std.proofs.lemmas.Iterator.Consumers.{fold_from_yields_List}
use Rattle.hostprint.specs.Mixed.{mixed}
use Rattle.hostprint.proofs.Laws.{mixing}
use Rattle.hostprint.proofs.mix_words.Goals as goal

pub returns : goal.returns
returns c =
    mixing c.args.n c.args.words c.fold.result
    (fold_from_yields_List _ (λ m k. mixed m k) _ _ c.fold.ensures.ran (YieldsList-from_slice c.args.words (cc)) (λ a x b q k. search rules))
