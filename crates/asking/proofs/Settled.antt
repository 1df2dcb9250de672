-- A question has one answer. Assumes nothing.
use Prim.Native.Nat.{ℕ}
use mathlib.Core.Path.{◌≡◌, refl, sym, ap, ◌∙◌}
use mathlib.Core.List.{List}
use Rattle.slots.proofs.Slots.{slot_for}
use Rattle.counts.specs.State.{used_in}
use Rattle.asking.specs.Asking.{AsksStreams, AsksSettled}

pub asks_settled : AsksSettled
asks_settled c m v q r a b = let s = slot_for m v (used_in c) in a.is s.0 s.1 ∙ sym (b.is s.0 s.1)
