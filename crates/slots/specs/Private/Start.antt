-- Where a slot begins: no slot number of 16 bits lies further.
use Rattle.std.specs.Prelude.{ℕ, ◌*◌, ◌≤◌, ◌≡◌}
use Rattle.slots.specs.Slot.{slot_size}

pub record Start (i r : ℕ) : Type 0 where
  pub is : r ≡ i * slot_size
  pub low : r ≤ 65535 * slot_size
