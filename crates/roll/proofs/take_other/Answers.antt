-- `roll::take_other` meets its contract: one line more.
use Rattle.roll.proofs.take_other.Goals as goal

pub returns : goal.returns
returns c = cc
