-- One law for each way out of the crate's functions. Assumes nothing.
use Rattle.std.specs.Prelude.{Result, Ok, Err}
use Prim.Native.Nat.{ℕ, ◌*◌, ◌≤◌, ◌<◌}
use mathlib.Core.Path.{◌≡◌, refl, sym, ap, ◌∙◌}
use mathlib.Core.List.{List}
use lib.Dec.{eqb, ltb}
use lib.ListN.{length}
use lib.Seq.{sets}
use borrow.Author.Tests.{eq-eqb, ne_eqb, lt-ltb, le-ltb}
use Rattle.clock.specs.declared.Refusal.{Refusal}
use Rattle.clock.specs.declared.ReferenceClock.{ReferenceClock}
use Rattle.meaning.specs.ReferenceClock.{read_reference_clock}
use Rattle.meaning.specs.Meaning.{ref_meaning}
use Rattle.streams.specs.Limits.{least_memory}
use Rattle.streams.specs.declared.Uncounted.TheVariants.{NoMemory, NoStream}
use Rattle.naming.specs.Domain.{or_none, domain_in}
use Rattle.quads.specs.Quad.{quad}
use Rattle.slots.specs.Slot.{slot_size, streams_at}
use Rattle.slots.specs.Find.{SlotOf}
use Rattle.slots.proofs.Slots.{slot_settled}
use Rattle.counts.specs.State.{census, used_in, plus, more, less}
use Rattle.counts.specs.Outcome.{done_with, refused_with, leaves, refuses, Does}
use Rattle.counts.specs.declared.Census.{Census}
use Rattle.counts.specs.declared.Called.{Called}
use Rattle.counts.proofs.Laws.{does_refuse, does_leave, does_same}
use Rattle.joining.specs.Joining.{added_memory, joined_memory, Moves, join_slots, join_clocks, join_read, join_outcome, Joins}
use Rattle.joining.specs.Private.Clock.{Adds, JoinsClocks}

-- `add_streams`, `move_streams`
module _ (m : List ℕ) (i j : ℕ) where
  pub adds : (o n p : ℕ) → o ≡ streams_at m j → n ≡ streams_at m i → p ≡ plus o n
      → (m₁ : List ℕ) → m₁ ≡ sets m (j * slot_size) (quad p) → Adds m i j n m₁
  adds o n p eo en ep m₁ e = record { number = en; memory = e ∙ ap (λ (x : ℕ). sets m (j * slot_size) (quad x)) (ep ∙ cc (eo, en)) }

  pub moves : (n : ℕ) (m₁ : List ℕ) → Adds m i j n m₁ → (m₂ : List ℕ) → m₂ ≡ sets m₁ (i * slot_size) (quad 0) → Moves m i j n m₂
  moves n m₁ w m₂ e = record { number = w.number; memory = e ∙ ap (λ (y : List ℕ). sets y (i * slot_size) (quad 0)) w.memory }

-- `join_slots`
module _ (c : Census) (m : List ℕ) (i : ℕ) (from : ReferenceClock) (j : ℕ) (into : ReferenceClock) where
  pub join_same : i ≡ j → (r : Called) → r ≡ done_with c → Does (join_slots c m i from j into) c m r m
  unfolding join_slots
  join_same e r f = let q : join_slots c m i from j into ≡ leaves c m = simp (eq-eqb i j e) in does_leave q f refl

  pub join_done : (i ≡ j → ⊥) → (n : ℕ) (m₂ : List ℕ) → Moves m i j n m₂
      → (d e : ℕ) → d ≡ or_none (domain_in from) → e ≡ or_none (domain_in into)
      → (a b : Census) → a ≡ census c.used c.total c.refused (less d n c.domains)
      → b ≡ census a.used a.total a.refused (more e n a.domains)
      → (r : Called) → r ≡ done_with b → Does (join_slots c m i from j into) c m r m₂
  unfolding join_slots
  join_done x n m₂ w d e ed ee a b ea eb r er =
      let q : join_slots c m i from j into
      ≡ leaves
      (census c.used c.total c.refused
      (more (or_none (domain_in into)) (streams_at m i) (less (or_none (domain_in from)) (streams_at m i) c.domains)))
      (joined_memory m i j) =
      simp (ne_eqb i j x) in
      does_leave q (er ∙ ap done_with (eb ∙ cc (ea, ed, ee, w.number))) w.memory

-- `join_clocks`
module _ (c : Census) (m v : List ℕ) (from : ReferenceClock) (w : List ℕ) (into : ReferenceClock) (u : ℕ) (eu : u ≡ used_in c) (i : ℕ)
    (s : SlotOf m (ref_meaning v from) u i) where
  first_slot : (x : ℕ) → SlotOf m (ref_meaning v from) (used_in c) x → x ≡ i
  first_slot x t = slot_settled m (ref_meaning v from) u x i (rw (← eu) at t) s

  pub join_no_first : u ≤ i → (r : Called) → r ≡ refused_with c NoStream → JoinsClocks c m v from w into r m
  unfolding join_clocks
  join_no_first h r e = record { does = λ x y p q. let z = first_slot x p in rw z (does_refuse (simp (← eu, le-ltb i u h)) e) }

  module _ (h : i < u) (j : ℕ) (t : SlotOf m (ref_meaning w into) u j) where
    second_slot : (y : ℕ) → SlotOf m (ref_meaning w into) (used_in c) y → y ≡ j
    second_slot y q = slot_settled m (ref_meaning w into) u y j (rw (← eu) at q) t

    pub join_no_second : u ≤ j → (r : Called) → r ≡ refused_with c NoStream → JoinsClocks c m v from w into r m
    unfolding join_clocks
    join_no_second g r e =
        record {
          does = λ x y p q.
              let z₁ = first_slot x p in
              let z₂ = second_slot y q in
              rw (z₁, z₂) (does_refuse (simp (← eu, lt-ltb i u h, le-ltb j u g)) e);
        }

    pub join_known : j < u → (r : Called) (m' : List ℕ) → Does (join_slots c m i from j into) c m r m' → JoinsClocks c m v from w into r m'
    unfolding join_clocks
    join_known g r m' d =
        record {
          does = λ x y p q.
              let z₁ = first_slot x p in
              let z₂ = second_slot y q in
              rw (z₁, z₂) (does_same (simp (← eu, lt-ltb i u h, lt-ltb j u g)) d);
        }

-- `join`
module _ (c : Census) (m v w : List ℕ) where
  pub join_short : length m < least_memory → (r : Called) → r ≡ refused_with c NoMemory → Joins c m v w r m
  unfolding join_outcome
  join_short h r e = record { does = λ i j s t. does_refuse (simp (lt-ltb (length m) least_memory h)) e }

  module _ (h : least_memory ≤ length m) (x : Result ReferenceClock Refusal) (ex : x ≡ read_reference_clock v) where
    pub join_first_refused : (q : Refusal) → x ≡ Err q → (r : Called) → r ≡ refused_with c NoStream → Joins c m v w r m
    unfolding join_outcome
    join_first_refused q e r er = record { does = λ i j s t. does_refuse (simp (le-ltb (length m) least_memory h, ← ex, e)) er }

    module _ (k : ReferenceClock) (e : x ≡ Ok k) (y : Result ReferenceClock Refusal) (ey : y ≡ read_reference_clock w) where
      pub join_second_refused : (q : Refusal) → y ≡ Err q → (r : Called) → r ≡ refused_with c NoStream → Joins c m v w r m
      unfolding join_outcome
      join_second_refused q f r er = record { does = λ i j s t. does_refuse (simp (le-ltb (length m) least_memory h, ← ex, e, ← ey, f)) er }

      pub join_accepted : (l : ReferenceClock) → y ≡ Ok l → (r : Called) (m' : List ℕ) → JoinsClocks c m v k w l r m' → Joins c m v w r m'
      unfolding join_outcome
      join_accepted l f r m' z =
          record {
            does = λ i j s t.
                does_same (simp (le-ltb (length m) least_memory h, ← ex, e, ← ey, f))
                (z.does i j (s.named k (sym ex ∙ e)) (t.named l (sym ey ∙ f)));
          }

pub ruleset laws = (
  adds,
  moves,
  join_same,
  join_done,
  join_no_first,
  join_no_second,
  join_known,
  join_short,
  join_first_refused,
  join_second_refused,
  join_accepted,
)
