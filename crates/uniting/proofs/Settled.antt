-- Uniting leaves one memory, and has one answer. Assumes nothing.
use Rattle.std.specs.Prelude.{Result, Ok, Err}
use Prim.Native.Nat.{ℕ, zero, suc, ◌≤◌, ◌<◌}
use mathlib.Core.Path.{◌≡◌, refl, ap}
use mathlib.Core.List.{List}
use lib.Dec.{ltb}
use lib.ListN.{length}
use borrow.Author.Tests.{le-ltb, lt-ltb, ltb-true, ltb-false}
use Rattle.text.proofs.Bools.{by_bool, clash}
use Rattle.meaning.specs.ReferenceClock.{read_reference_clock}
use Rattle.meaning.specs.Meaning.{ref_meaning}
use Rattle.streams.specs.Limits.{least_memory}
use Rattle.streams.specs.declared.Uncounted.TheVariants.{NoMemory}
use Rattle.slots.specs.Slot.{value_at}
use Rattle.slots.specs.Find.{SlotFor}
use Rattle.slots.proofs.Slots.{slot_settled, slot_for}
use Rattle.counts.specs.State.{used_in}
use Rattle.counts.specs.Outcome.{done_with, refused_with, leaves, refuses, Does}
use Rattle.counts.specs.declared.Census.{Census}
use Rattle.counts.specs.declared.Called.{Called}
use Rattle.counts.proofs.Laws.{does_settled}
use Rattle.uniting.specs.Uniting.{united_slot, United, none, more, unite_outcome, Unites}
use Rattle.uniting.specs.Uniting.{RefusedUnitesNothing, UnitedThere, UnitedSettled, UnitesSettled}
use Rattle.clock.specs.declared.ReferenceClock.{ReferenceClock}
use Rattle.clock.specs.declared.Refusal.{Refusal}

pub united_there : UnitedThere
united_there m zero = (m, none)
united_there m (suc n) =
    let u = united_there m n in
    let s = slot_for u.0 (value_at u.0 n) n in
    (united_slot u.0 n s.0, more n s.0 u.0 u.1 s.1)

-- whichever slot is that of a refused value, nothing is done
slot_united : (m : List ℕ) (n i j : ℕ) → SlotFor m (value_at m n) n i → SlotFor m (value_at m n) n j → united_slot m n i ≡ united_slot m n j
unfolding united_slot
slot_united m n i j s t = go (read_reference_clock (value_at m n)) refl
  where
    go : (x : Result ReferenceClock Refusal) → read_reference_clock (value_at m n) ≡ x → united_slot m n i ≡ united_slot m n j
    go (Ok k) e = ap (united_slot m n) (slot_settled m (ref_meaning (value_at m n) k) n i j (s.named k e) (t.named k e))
    go (Err q) e = simp e

one_memory : {m : List ℕ} {n : ℕ} {m₁ m₂ : List ℕ} → United m n m₁ → United m n m₂ → m₁ ≡ m₂
one_memory none none = refl
one_memory (more n i p u s) (more k j q v t) = let e = one_memory u v in rw e (slot_united q n i j (rw e at s) t)

pub united_settled : UnitedSettled
united_settled m n m₁ m₂ u v = one_memory u v

pub unites_settled : UnitesSettled
unites_settled c m q r m₁ m₂ a b = let u = united_there m (used_in c) in does_settled (a.does u.0 u.1) (b.does u.0 u.1)

-- by the length of the memory
module _ (c : Census) (m : List ℕ) (r : Called) (m' : List ℕ) (w : Unites c m r m') where
  pub unites_done : least_memory ≤ length m → (r ≡ done_with c) × United m (used_in c) m'
  unfolding unite_outcome
  unites_done h =
      let u = united_there m (used_in c) in
      let d : Does (leaves c u.0) c m r m' = simp (le-ltb (length m) least_memory h) at (w.does u.0 u.1) in
      (d.result, rw d.memory u.1)

  pub unites_short : length m < least_memory → (r ≡ refused_with c NoMemory) × (m' ≡ m)
  unfolding unite_outcome
  unites_short h =
      let u = united_there m (used_in c) in
      let d : Does (refuses NoMemory) c m r m' = simp (lt-ltb (length m) least_memory h) at (w.does u.0 u.1) in
      (d.result, d.memory)

pub refused_unites_nothing : RefusedUnitesNothing
refused_unites_nothing c m r m' why w e =
    by_bool (ltb (length m) least_memory)
    (λ t.
    let h = ltb-true (length m) least_memory t in
    let d = unites_short c m r m' w h in
    record { reason = cc (d.0, e); short = h; census = ap (λ (x : Called). x.census) d.0; memory = d.1 })
    (λ t. clash (cc ((unites_done c m r m' w (ltb-false (length m) least_memory t)).0, e)))
