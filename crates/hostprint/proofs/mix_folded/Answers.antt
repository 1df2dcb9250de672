-- `hostprint::mix_folded` meets its contract: each byte is mixed as its small letter.
use Rattle.std.proofs.Common.{rules}
use Rattle.std.proofs.lemmas.Iterator.{YieldsList-from_slice}
use Rattle.std.proofs.lemmas.Iterator.Consumers.{fold_from_yields_List}
use Rattle.hosts.specs.Server.{lower}
use Rattle.hostprint.specs.Mixed.{mixed}
use Rattle.hostprint.proofs.Laws.{folding}
use Rattle.hostprint.proofs.mix_folded.Goals as goal

pub returns : goal.returns
returns c =
    folding c.args.n c.args.s.now c.fold.result
    (fold_from_yields_List _ (λ m b. mixed m (lower b)) _ _ c.fold.ensures.ran (YieldsList-from_slice c.args.s.now (cc)) (λ a x b q k. search rules))
