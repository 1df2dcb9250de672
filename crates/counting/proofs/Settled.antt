-- Counting has one answer, and leaves one memory. Assumes nothing.
use Prim.Native.Nat.{ℕ}
use mathlib.Core.Path.{◌≡◌, refl, sym, ap, ◌∙◌}
use mathlib.Core.List.{List}
use Rattle.slots.proofs.Slots.{slot_for}
use Rattle.counts.specs.State.{used_in}
use Rattle.counts.proofs.Laws.{does_settled}
use Rattle.counting.specs.Counting.{Counts, CountsSettled}

pub counts_settled : CountsSettled
counts_settled c m v q r m₁ m₂ a b = let s = slot_for m v (used_in c) in does_settled (a.does s.0 s.1) (b.does s.0 s.1)
