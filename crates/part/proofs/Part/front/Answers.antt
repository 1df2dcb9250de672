-- `Part::front` gives a part of the same memory.
use Rattle.std.proofs.Common.{rules, arith, refl}
use Rattle.part.proofs.Laws.{front_bytes}
use Rattle.part.proofs.Part.front.Goals as goal

pub returns-clause-there : goal.returns-clause-there
returns-clause-there c = record { block = refl; start = omega arith; bytes = front_bytes c.args.self.text.now c.args.n _ (search rules) }
