-- A census beside its memory keeps the streams of a plain list: it holds them, and their slots are found.
use Rattle.std.specs.Prelude.{ℕ, ◌<◌, ◌≡◌, List, false, Ok}
use Rattle.clock.specs.declared.ReferenceClock.{ReferenceClock}
use Rattle.meaning.specs.ReferenceClock.{read_reference_clock}
use Rattle.meaning.specs.Meaning.{ref_meaning}
use Rattle.equal.specs.Fingerprint.{fingerprint, host_print}
use Rattle.streams.specs.Rule.{Rule}
use Rattle.streams.specs.Streams.{Streams}
use Rattle.slots.specs.Slot.{print_at, value_at, is_free}
use Rattle.counts.specs.State.{used_in}
use Rattle.counts.specs.declared.Census.{Census}
use Rattle.kept.specs.Holds.{Holds}

-- each slot with streams, of the first n, has the fingerprint of its value's clock
abbrev pub Prints : List ℕ → ℕ → Type 0
Prints m n =
    (i : ℕ) → i < n → is_free m i ≡ false → (k : ReferenceClock) → read_reference_clock (value_at m i) ≡ Ok k
    → print_at m i ≡ fingerprint host_print (ref_meaning (value_at m i) k)

pub record Keeps (R : Rule) (c : Census) (m : List ℕ) (l : Streams) : Type 0 where
  pub holds : Holds R c m l
  pub prints : Prints m (used_in c)
