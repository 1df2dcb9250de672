-- What is done with a slot.
use Rattle.std.specs.Prelude.{ℕ, ◌≡◌, List}
use Rattle.slots.specs.Slot.{value_at}
use Rattle.slots.specs.Find.{SlotFor}
use Rattle.joining.specs.Joining.{joined_memory}
use Rattle.uniting.specs.Uniting.{reprinted, united_slot}
use Rattle.uniting.specs.declared.Step.{Step}
use Rattle.uniting.specs.declared.Step.TheVariants.{Stay, Move, Print}

-- the memory m after a step at the slot i
abbrev pub stepped : List ℕ → ℕ → Step → List ℕ
stepped m i Stay = m
stepped m i (Move j) = joined_memory m i j
stepped m i (Print p) = reprinted m i p

pub record StepFor (m : List ℕ) (i : ℕ) (s : Step) : Type 0 where
  pub does : (j : ℕ) → SlotFor m (value_at m i) i j → stepped m i s ≡ united_slot m i j

pub record UnitesSlot (m : List ℕ) (i : ℕ) (m' : List ℕ) : Type 0 where
  pub does : (j : ℕ) → SlotFor m (value_at m i) i j → m' ≡ united_slot m i j
