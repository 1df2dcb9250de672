-- `Part::behind` gives a part of the same memory.
use Rattle.std.proofs.Common.{rules, refl}
use Rattle.part.proofs.Laws.{behind_bytes}
use Rattle.part.proofs.Part.behind.Goals as goal

pub returns-clause-there : goal.returns-clause-there
returns-clause-there c = record { block = refl; start = search rules; bytes = behind_bytes c.args.self.text.now c.args.n _ (search rules) }
