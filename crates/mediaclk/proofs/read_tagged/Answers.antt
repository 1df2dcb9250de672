-- `mediaclk::read_tagged` meets its contract: the cut behind `id=` is a law.
use Rattle.mediaclk.proofs.Laws.{tagged_within, tagged_clock}
use Rattle.std.proofs.Common.{arith}
use Rattle.mediaclk.proofs.read_tagged.Goals as goal

pub overflow_add-end : goal.overflow_add-end
overflow_add-end c = let w = tagged_within c.args.v.now c.requires.tagged in grind (arith, w)

pub returns-in_err-id-clause-source : goal.returns-in_err-id-clause-source
returns-in_err-id-clause-source c = let k = tagged_clock c.args.v.now c.requires.tagged c.find-end.result c.find-end.ensures c.read_id.result c.read_id.ensures in grind (arith, k)

pub returns-clause-source : goal.returns-clause-source
returns-clause-source c = let k = tagged_clock c.args.v.now c.requires.tagged c.find-end.result c.find-end.ensures c.read_id.result c.read_id.ensures in grind (arith, k)
