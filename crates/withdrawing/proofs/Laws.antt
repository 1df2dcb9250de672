-- One law for each way out of the crate's functions. Assumes nothing.
use Rattle.std.specs.Prelude.{Result, Ok, Err}
use Prim.Native.Nat.{ℕ, ◌-◌, ◌*◌, ◌≤◌, ◌<◌}
use mathlib.Core.Path.{◌≡◌, refl, sym, ap, ◌∙◌}
use mathlib.Core.List.{List, []}
use mathlib.Core.Bool.{true, false}
use lib.Dec.{eqb, ltb}
use lib.ListN.{length}
use lib.Seq.{sets}
use borrow.Author.Tests.{eq-eqb, ne_eqb, lt-ltb, le-ltb}
use Rattle.text.proofs.Bools.{by_bool}
use Rattle.clock.specs.declared.Refusal.{Refusal}
use Rattle.clock.specs.declared.ReferenceClock.{ReferenceClock}
use Rattle.meaning.specs.ReferenceClock.{read_reference_clock}
use Rattle.meaning.specs.Meaning.{ref_meaning}
use Rattle.streams.specs.Limits.{least_memory}
use Rattle.streams.specs.declared.Uncounted.TheVariants.{NoMemory, NoStream}
use Rattle.naming.specs.Domain.{or_none, domain_in}
use Rattle.quads.specs.Quad.{quad}
use Rattle.slots.specs.Slot.{slot_size, streams_at}
use Rattle.slots.specs.Find.{SlotOf}
use Rattle.slots.proofs.Slots.{slot_settled}
use Rattle.counts.specs.State.{census, used_in, one_less}
use Rattle.counts.specs.Outcome.{done_with, refused_with, called_with, leaves, refuses, Does}
use Rattle.counts.specs.declared.Census.{Census}
use Rattle.counts.specs.declared.Called.{Called}
use Rattle.counts.proofs.Laws.{does_refuse, does_leave, does_same}
use Rattle.withdrawing.specs.Withdrawing.{withdraw_refused, withdraw_known, withdraw_clock, withdraw_read, withdraw_outcome, Withdraws}
use Rattle.withdrawing.specs.Private.Clock.{WithdrawsClock}

-- `withdraw_known`
pub known_done : (c : Census) (m : List ℕ) (k : ReferenceClock) (i n p : ℕ) → n ≡ streams_at m i → p ≡ n - 1
    → (m' : List ℕ) → m' ≡ sets m (i * slot_size) (quad p) → (a : Census) → a ≡ one_less (or_none (domain_in k)) c → (r : Called) → r ≡ done_with a
    → Does (withdraw_known c m k i) c m r m'
unfolding withdraw_known
known_done c m k i n p en ep m' em a ea r er =
    does_leave refl (er ∙ ap done_with ea) (em ∙ ap (λ (x : ℕ). sets m (i * slot_size) (quad x)) (ep ∙ ap (λ (x : ℕ). x - 1) en))

-- `withdraw_clock`
module _ (c : Census) (m v : List ℕ) (k : ReferenceClock) (u : ℕ) (eu : u ≡ used_in c) (i : ℕ) (s : SlotOf m (ref_meaning v k) u i) where
  is_slot : (j : ℕ) → SlotOf m (ref_meaning v k) (used_in c) j → j ≡ i
  is_slot j t = slot_settled m (ref_meaning v k) u j i (rw (← eu) at t) s

  pub clock_known : i < u → (r : Called) (m' : List ℕ) → Does (withdraw_known c m k i) c m r m' → WithdrawsClock c m v k r m'
  unfolding withdraw_clock
  clock_known h r m' d = record { does = λ j t. let e = is_slot j t in rw e (does_same (simp (← eu, lt-ltb i u h)) d) }

  pub clock_none : u ≤ i → (r : Called) → r ≡ refused_with c NoStream → WithdrawsClock c m v k r m
  unfolding withdraw_clock
  clock_none h r f = record { does = λ j t. let e = is_slot j t in rw e (does_refuse (simp (← eu, le-ltb i u h)) f) }

-- `withdraw_refused`
module _ (c : Census) where
  pub refused_none : c.refused ≡ 0 → (r : Called) → r ≡ refused_with c NoStream → r ≡ called_with (withdraw_refused c []) c
  unfolding withdraw_refused
  refused_none z r e = e ∙ sym (simp (eq-eqb c.refused 0 z))

  pub refused_done : (c.refused ≡ 0 → ⊥) → (t f : ℕ) → t ≡ c.total - 1 → f ≡ c.refused - 1
      → (r : Called) → r ≡ done_with (census c.used t f c.domains) → r ≡ called_with (withdraw_refused c []) c
  unfolding withdraw_refused
  refused_done z t f et ef r e =
      let owed : Called = done_with (census c.used (c.total - 1) (c.refused - 1) c.domains) in
      let o : called_with (withdraw_refused c []) c ≡ owed = simp (ne_eqb c.refused 0 z) in
      let q : done_with (census c.used t f c.domains) ≡ owed = cc (et, ef) in
      e ∙ q ∙ sym o

-- `withdraw`
module _ (c : Census) (m v : List ℕ) where
  pub withdraw_short : length m < least_memory → (r : Called) → r ≡ refused_with c NoMemory → Withdraws c m v r m
  unfolding withdraw_outcome
  withdraw_short h r e = record { does = λ i s. does_refuse (simp (lt-ltb (length m) least_memory h)) e }

  module _ (h : least_memory ≤ length m) (x : Result ReferenceClock Refusal) (ex : x ≡ read_reference_clock v) where
    pub withdraw_refused_lem : (q : Refusal) → x ≡ Err q → (r : Called) → r ≡ called_with (withdraw_refused c []) c → Withdraws c m v r m
    unfolding withdraw_outcome withdraw_refused
    withdraw_refused_lem q e r er =
        record {
          does = λ i s.
              by_bool (eqb c.refused 0)
              (λ z.
              let o : withdraw_outcome c m v i ≡ refuses NoStream = simp (le-ltb (length m) least_memory h, ← ex, e, z) in
              does_refuse o (er ∙ simp z))
              (λ z.
              let o : withdraw_outcome c m v i ≡ leaves (census c.used (c.total - 1) (c.refused - 1) c.domains) m =
              simp (le-ltb (length m) least_memory h, ← ex, e, z) in
              does_leave o (er ∙ simp z) refl);
        }

    pub withdraw_accepted : (a : ReferenceClock) → x ≡ Ok a → (r : Called) (m' : List ℕ) → WithdrawsClock c m v a r m' → Withdraws c m v r m'
    unfolding withdraw_outcome
    withdraw_accepted a e r m' w =
        record { does = λ i s. does_same (simp (le-ltb (length m) least_memory h, ← ex, e)) (w.does i (s.named a (sym ex ∙ e))) }

pub ruleset laws = (
  known_done,
  clock_known,
  clock_none,
  refused_none,
  refused_done,
  withdraw_short,
  withdraw_refused_lem,
  withdraw_accepted,
)
