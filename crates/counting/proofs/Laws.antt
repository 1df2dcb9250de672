-- One law for each way out of the crate's functions. Assumes nothing.
use Rattle.std.specs.Prelude.{Result, Ok, Err}
use Prim.Native.Nat.{ℕ, ◌+◌, ◌*◌, ◌≤◌, ◌<◌, max, min}
use mathlib.Core.Path.{◌≡◌, refl, sym, ap, ◌∙◌}
use mathlib.Core.List.{List}
use native.Mathlib.Omega.{arith}
use lib.Dec.{ltb, leb}
use lib.ListN.{length, take}
use lib.Seq.{sets, take_all}
use borrow.Author.Tests.{lt-ltb, le-ltb, le-leb, lt-leb}
use Rattle.clock.specs.declared.Refusal.{Refusal}
use Rattle.clock.specs.declared.ReferenceClock.{ReferenceClock}
use Rattle.meaning.specs.ReferenceClock.{read_reference_clock}
use Rattle.meaning.specs.Meaning.{ref_meaning}
use Rattle.meaning.specs.Domain.{bare}
use Rattle.meaning.proofs.Spelling.{bare_lawful}
use Rattle.meaning.proofs.Reference.{ref_fits}
use Rattle.meaning.proofs.Demand3.{ref_answer}
use Rattle.equal.specs.Fingerprint.{fingerprint, host_print}
use Rattle.streams.specs.Limits.{least_memory, most_clocks, most_streams}
use Rattle.streams.specs.declared.Uncounted.TheVariants.{NoMemory, TotalFull, ClocksFull}
use Rattle.naming.specs.Domain.{or_none, domain_in}
use Rattle.quads.specs.Quad.{quad}
use Rattle.slots.specs.Slot.{slot_size, slot_bytes, streams_at, free_slot}
use Rattle.slots.specs.Find.{SlotOf, SlotFor}
use Rattle.slots.proofs.Slots.{slot_settled}
use Rattle.counts.specs.State.{census, used_in, plus, one_more}
use Rattle.counts.specs.Outcome.{done_with, refused_with, leaves, refuses, Does}
use Rattle.counts.specs.declared.Census.{Census}
use Rattle.counts.specs.declared.Called.{Called}
use Rattle.counts.proofs.Laws.{does_refuse, does_leave, does_same}
use Rattle.counting.specs.Counting.{one_refused_more, count_known, count_new, count_clock, count_read, count_outcome, Counts}
use Rattle.counting.specs.Private.Clock.{CountsClock}

-- an accepted value fits its slot
pub accepted_short : (v : List ℕ) (k : ReferenceClock) → read_reference_clock v ≡ Ok k → length v ≤ 1024
accepted_short v k e = ref_fits bare bare_lawful v k (ref_answer v k e)

-- `count_known`
pub known_done : (c : Census) (m : List ℕ) (k : ReferenceClock) (i n p : ℕ) → n ≡ streams_at m i → p ≡ plus n 1
    → (m' : List ℕ) → m' ≡ sets m (i * slot_size) (quad p) → (a : Census) → a ≡ one_more (or_none (domain_in k)) c → (r : Called) → r ≡ done_with a
    → Does (count_known c m k i) c m r m'
unfolding count_known
known_done c m k i n p en ep m' em a ea r er =
    does_leave refl (er ∙ ap done_with ea) (em ∙ ap (λ (x : ℕ). sets m (i * slot_size) (quad x)) (ep ∙ ap (λ (x : ℕ). plus x 1) en))

-- `count_new`
module _ (c : Census) (m v : List ℕ) (k : ReferenceClock) (u : ℕ) (eu : u ≡ used_in c) (i : ℕ) (ei : i ≡ free_slot m u) where
  pub new_full : most_clocks ≤ i → (r : Called) → r ≡ refused_with c ClocksFull → Does (count_new c m v k) c m r m
  unfolding count_new
  new_full h r f = does_refuse (simp (← eu, ← ei, le-leb most_clocks i h)) f

  pub new_done : read_reference_clock v ≡ Ok k → i < most_clocks → (p : ℕ) → p ≡ fingerprint host_print (ref_meaning v k)
      → (m' : List ℕ) → m' ≡ sets m (i * slot_size) (slot_bytes 1 p (take 1024 v))
      → (a : Census) → a ≡ one_more (or_none (domain_in k)) c → (w : ℕ) → w ≡ max u (i + 1)
      → (r : Called) → r ≡ done_with (census w a.total a.refused a.domains)
      → Does (count_new c m v k) c m r m'
  unfolding count_new
  new_done reads h p ep m' em a ea w ew r er =
      let b = one_more (or_none (domain_in k)) c in
      let q : count_new c m v k
      ≡ leaves (census (max u (i + 1)) b.total b.refused b.domains) (sets m (i * slot_size) (slot_bytes 1 (fingerprint host_print (ref_meaning v k)) v)) =
      simp (← eu, ← ei, lt-leb most_clocks i h) in
      does_leave q (er ∙ cc (ea, ew))
      (em ∙ ap (λ (x : ℕ). sets m (i * slot_size) (slot_bytes 1 x (take 1024 v))) ep
      ∙ ap (λ (x : List ℕ). sets m (i * slot_size) (slot_bytes 1 (fingerprint host_print (ref_meaning v k)) x)) (take_all 1024 v (accepted_short v k reads)))

pub next_fits : (i : ℕ) → i < most_clocks → i + 1 ≤ 65535
next_fits i h = omega arith

-- `count_clock`
module _ (c : Census) (m v : List ℕ) (k : ReferenceClock) (u : ℕ) (eu : u ≡ used_in c) (i : ℕ) (s : SlotOf m (ref_meaning v k) u i) where
  is_slot : (j : ℕ) → SlotOf m (ref_meaning v k) (used_in c) j → j ≡ i
  is_slot j t = slot_settled m (ref_meaning v k) u j i (rw (← eu) at t) s

  pub clock_known : i < u → (r : Called) (m' : List ℕ) → Does (count_known c m k i) c m r m' → CountsClock c m v k r m'
  unfolding count_clock
  clock_known h r m' d =
      record { does = λ j t. let e = is_slot j t in rw e (does_same (simp (← eu, lt-ltb i u h)) d) }

  pub clock_new : u ≤ i → (r : Called) (m' : List ℕ) → Does (count_new c m v k) c m r m' → CountsClock c m v k r m'
  unfolding count_clock
  clock_new h r m' d =
      record { does = λ j t. let e = is_slot j t in rw e (does_same (simp (← eu, le-ltb i u h)) d) }

-- `count_refused`
pub refused_done : (c : Census) (t f : ℕ) → t ≡ plus c.total 1 → f ≡ plus c.refused 1
    → (r : Called) → r ≡ done_with (census c.used t f c.domains)
    → r ≡ done_with (one_refused_more c)
refused_done c t f et ef r er = er ∙ cc (et, ef)

-- `count`
pub accepted_is : (v : List ℕ) (x : Result ReferenceClock Refusal) (k : ReferenceClock) → x ≡ read_reference_clock v → x ≡ Ok k → read_reference_clock v ≡ Ok k
accepted_is v x k e f = sym e ∙ f

module _ (c : Census) (m v : List ℕ) where
  pub count_short : length m < least_memory → (r : Called) → r ≡ refused_with c NoMemory → Counts c m v r m
  unfolding count_outcome
  count_short h r e = record { does = λ i s. does_refuse (simp (lt-ltb (length m) least_memory h)) e }

  module _ (h : least_memory ≤ length m) where
    pub count_full : most_streams ≤ c.total → (r : Called) → r ≡ refused_with c TotalFull → Counts c m v r m
    unfolding count_outcome
    count_full k r e = record { does = λ i s. does_refuse (simp (le-ltb (length m) least_memory h, le-leb most_streams c.total k)) e }

    module _ (k : c.total < most_streams) (x : Result ReferenceClock Refusal) (ex : x ≡ read_reference_clock v) where
      pub count_refused : (q : Refusal) → x ≡ Err q → (r : Called) → r ≡ done_with (one_refused_more c) → Counts c m v r m
      unfolding count_outcome
      count_refused q e r er =
          record {
            does = λ i s.
                let o : count_outcome c m v i ≡ leaves (one_refused_more c) m =
                simp (le-ltb (length m) least_memory h, lt-leb most_streams c.total k, ← ex, e) in
                does_leave o er refl;
          }

      pub count_accepted : (a : ReferenceClock) → x ≡ Ok a → (r : Called) (m' : List ℕ) → CountsClock c m v a r m' → Counts c m v r m'
      unfolding count_outcome
      count_accepted a e r m' w =
          record {
            does = λ i s. does_same (simp (le-ltb (length m) least_memory h, lt-leb most_streams c.total k, ← ex, e)) (w.does i (s.named a (sym ex ∙ e)));
          }

pub ruleset laws = (
  known_done,
  new_full,
  new_done,
  next_fits,
  clock_known,
  clock_new,
  refused_done,
  accepted_is,
  count_short,
  count_full,
  count_refused,
  count_accepted,
)
