-- The statement of `specs/Advance.antt` that no second answer meets it, proved. Assumes nothing.
use mathlib.Core.Path.{sym, ◌∙◌}
use Rattle.openline.specs.Advance.{AdvancesSettled}

pub advances_settled : AdvancesSettled
advances_settled t line totals kept memory room r other memory₁ memory₂ room₁ room₂ p q =
    (p.answer ∙ sym q.answer, p.memory ∙ sym q.memory, p.room ∙ sym q.room)
