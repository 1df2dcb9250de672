-- A line leaves one roll and one memory. Assumes nothing.
use Rattle.std.specs.Prelude.{Option, Some, None}
use Prim.Native.Nat.{ℕ}
use mathlib.Core.Path.{◌≡◌, sym, ap, ◌∙◌}
use mathlib.Core.List.{List}
use Rattle.counting.proofs.Settled.{counts_settled}
use Rattle.roll.specs.declared.Roll.{Roll}
use Rattle.roll.specs.Taking.{stream_of, with_stream, Takes, TakesSettled}

settled : (r : Roll) (m : List ℕ) (v : Option (List ℕ)) (r₁ r₂ : Roll) (m₁ m₂ : List ℕ) → Takes r m v r₁ m₁ → Takes r m v r₂ m₂
    → (r₁ ≡ r₂) × (m₁ ≡ m₂)
settled r m None r₁ r₂ m₁ m₂ a b = (a.0 ∙ sym b.0, a.1 ∙ sym b.1)
settled r m (Some v) r₁ r₂ m₁ m₂ a b =
    let one = counts_settled r.census m v a.called b.called m₁ m₂ a.counts b.counts in
    (a.is ∙ ap (with_stream r) one.0 ∙ sym b.is, one.1)

pub takes_settled : TakesSettled
takes_settled r m l r₁ r₂ m₁ m₂ a b = settled r m (stream_of l) r₁ r₂ m₁ m₂ a.takes b.takes
