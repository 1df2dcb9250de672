-- One answer alone meets a contract that names it. Assumes nothing.
use mathlib.Core.Path.{sym, ◌∙◌}
use Rattle.meaning.specs.Answer.{Settled}

pub settled : (A : Type 0) → Settled A
settled A a q r e f = e ∙ sym f
