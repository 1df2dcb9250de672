-- The statements of `specs/Call.antt` that no second answer meets a call's contract, proved. Assumes nothing.
use Rattle.std.specs.Prelude.{Result, ℕ}
use mathlib.Core.Path.{◌≡◌, sym, ap, ◌∙◌}
use Rattle.lines.specs.declared.State.{State}
use Rattle.lines.specs.declared.Fed.{Fed}
use Rattle.lines.specs.Call.{FeedsSettled, ClosesSettled}
use Rattle.lines.specs.declared.Unfed.{Unfed}

abbrev fed_as : Result ℕ Unfed → State → Fed
fed_as x y = record { filling = x; state = y }

same_fed : (r other : Fed) → r.filling ≡ other.filling → r.state ≡ other.state → r ≡ other
same_fed r other e f = ap (λ (x : Result ℕ Unfed). fed_as x r.state) e ∙ ap (fed_as other.filling) f

pub feeds_settled : FeedsSettled
feeds_settled state memory s room r other memory₁ memory₂ room₁ room₂ p q =
    (same_fed r other (p.filling ∙ sym q.filling) (p.state ∙ sym q.state), p.memory ∙ sym q.memory, p.room ∙ sym q.room)

pub closes_settled : ClosesSettled
closes_settled state memory room r other room₁ room₂ p q =
    (same_fed r other (p.filling ∙ sym q.filling) (p.state ∙ sym q.state), p.room ∙ sym q.room)
