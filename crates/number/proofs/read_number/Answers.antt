-- `number::read_number` meets its contract: where no plus stands in front, all of it is read.
use mathlib.Core.Path.{◌≡◌}
use Rattle.std.proofs.Common.{rules}
use Rattle.number.specs.Decimal.{after_plus}
use Rattle.number.proofs.Laws.{number_bare, bare_short, bare_other}
use Rattle.number.proofs.read_number.Goals as goal
use Rattle.number.proofs.read_number.Goals.{in_default-via-then-s-lt1, in_default-via-else-s-lt1+in_default-1}

pub returns-in_default : goal.returns-in_default
returns-in_default c =
    let bare : after_plus c.args.s.now ≡ c.args.s.now =
    elim c.in_default.branch [ in_default-via-then-s-lt1 w ↦ bare_short _ (search rules) | in_default-via-else-s-lt1+in_default-1 w ↦ bare_other _ (search rules) ]
    in number_bare _ _ bare _ c.read_digits-in_default.ensures
