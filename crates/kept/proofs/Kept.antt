-- Calls one after another from a fresh census: each answers as a plain list would, and the counts are those of the list. Assumes nothing.
use Rattle.std.specs.Prelude.{Result, Ok, Err}
use Prim.Native.Nat.{ℕ, ◌+◌, ◌≤◌, ◌<◌, min}
use mathlib.Core.Path.{◌≡◌, refl, sym, ap, ◌∙◌}
use mathlib.Core.List.{List, []}
use mathlib.Core.Bool.{true, false}
use native.Mathlib.Omega.{arith}
use lib.Dec.{ltb}
use lib.ListN.{length, get_or, get_or-replicate, length-replicate}
use borrow.Author.Tests.{lt-ltb, ltb-true, ltb-false}
use Rattle.text.proofs.Bools.{by_bool, clash}
use Rattle.clock.specs.declared.ReferenceClock.{ReferenceClock}
use Rattle.meaning.specs.ReferenceClock.{read_reference_clock}
use Rattle.meaning.specs.Meaning.{ref_meaning}
use Rattle.streams.specs.Rule.{Value, Rule}
use Rattle.streams.specs.Limits.{limits, least_memory, most_clocks}
use Rattle.streams.specs.Streams.{Streams, number_of, of_clock, refused_in, clocks_in}
use Rattle.streams.specs.Sums.{sum}
use Rattle.streams.specs.Calls.{Call, count, withdraw, join, answer, after, counted_by, withdrawn_by}
use Rattle.streams.specs.declared.Uncounted.{Uncounted}
use Rattle.streams.proofs.Total.{list_sum, list_parts}
use Rattle.streams.proofs.Widened.{widened}
use Rattle.streams.proofs.Book.{standing, clock_sum_lem, named_count, unnamed_count}
use Rattle.naming.specs.ClockRule.{is_accepted, ClockRule}
use Rattle.naming.proofs.Before.{was_narrower}
use Rattle.slots.specs.Slot.{streams_at, value_at, taken_slots, stream_sum}
use Rattle.slots.specs.Find.{SlotOf, SlotFor}
use Rattle.slots.proofs.Slots.{slot_for}
use Rattle.counts.specs.State.{fresh_census, used_in, domain_count}
use Rattle.counts.specs.Outcome.{Outcome, leaves, refuses, called_with, memory_after, Does}
use Rattle.counts.specs.declared.Census.{Census}
use Rattle.counts.specs.declared.Called.{Called}
use Rattle.counting.specs.Counting.{count_outcome}
use Rattle.withdrawing.specs.Withdrawing.{withdraw_outcome}
use Rattle.joining.specs.Joining.{join_outcome}
use Rattle.uniting.specs.Uniting.{Unites}
use Rattle.uniting.proofs.Settled.{unites_done, unites_short}
use Rattle.asking.specs.Asking.{streams_in, streams_read, asked, AsksStreams}
use Rattle.kept.specs.Holds.{view, HeldBefore}
use Rattle.kept.specs.Private.Keeps.{Keeps}
use Rattle.kept.specs.Kept.{Makes, Calls, fresh, united, more, AnswersAsList, Sum, RefusedChangesNothing, QuestionsAsked, QuestionsAsList}
use Rattle.kept.specs.United.{CallsHold, BeforeHeld, BeforeUnited, UnitedStays}
use Rattle.kept.proofs.Found.{G, Right, found}
use Rattle.kept.proofs.Counting.{count_right}
use Rattle.kept.proofs.Withdrawing.{withdraw_right}
use Rattle.kept.proofs.Joining.{join_right, no_streams}
use Rattle.kept.proofs.Uniting.{united_keeps, united_stays as stays}
use Rattle.clock.specs.declared.Refusal.{Refusal}

-- an outcome that refuses leaves all as it was
does_nothing : (o : Outcome) (c : Census) (m : List ℕ) (r : Called) (m' : List ℕ) (why : Uncounted) → Does o c m r m' → r.verdict ≡ Err why
    → (r.census ≡ c) × (m' ≡ m)
does_nothing (leaves c' n) c m r m' why d e = clash (cc (ap (λ (x : Called). x.verdict) d.result, e))
does_nothing (refuses w) c m r m' why d e = (ap (λ (x : Called). x.census) d.result, d.memory)

pub refused_changes_nothing : RefusedChangesNothing
refused_changes_nothing (count v) c m r m' why d e =
    let s = slot_for m v (used_in c) in
    does_nothing (count_outcome c m v s.0) c m r m' why (d.does s.0 s.1) e
refused_changes_nothing (withdraw v) c m r m' why d e =
    let s = slot_for m v (used_in c) in
    does_nothing (withdraw_outcome c m v s.0) c m r m' why (d.does s.0 s.1) e
refused_changes_nothing (join v w) c m r m' why d e =
    let s = slot_for m v (used_in c) in
    let t = slot_for m w (used_in c) in
    does_nothing (join_outcome c m v w s.0 t.0) c m r m' why (d.does s.0 t.0 s.1 t.1) e

module _ (R : Rule) (C : ClockRule R) where
  -- what a call that was made owes
  record Called-right (r : Called) (m m' : List ℕ) (k : Call) (l : Streams) : Type 0 where
    answered : r.verdict ≡ answer R limits (length m) k l
    keeps : Keeps R r.census m' (after R limits (length m) k l)

  right : {o : Outcome} {c : Census} {m : List ℕ} {k : Call} {l : Streams} {r : Called} {m' : List ℕ} → Right R C o c m k l → Does o c m r m'
      → Called-right r m m' k l
  right {k = k} {l = l} w d = rw (d.result, d.memory) (record { answered = w.answered; keeps = w.keeps })

  call_right : (c : Census) (m : List ℕ) (l : Streams) (k : Call) (r : Called) (m' : List ℕ) → Keeps R c m l → Makes k c m r m' → Called-right r m m' k l
  call_right c m l (count v) r m' K d = let s = slot_for m v (used_in c) in right (count_right R C c m l K v s.0 s.1) (d.does s.0 s.1)
  call_right c m l (withdraw v) r m' K d = let s = slot_for m v (used_in c) in right (withdraw_right R C c m l K v s.0 s.1) (d.does s.0 s.1)
  call_right c m l (join v w) r m' K d =
      let s = slot_for m v (used_in c) in
      let t = slot_for m w (used_in c) in
      right (join_right R C c m l K v w s.0 t.0 s.1 t.1) (d.does s.0 t.0 s.1 t.1)

  fresh_keeps : (m : List ℕ) → Keeps R fresh_census m []
  unfolding fresh_census number_of clocks_in sum
  fresh_keeps m =
      record {
        holds = record {
          stands = record {
            tallies = λ p resp ok. refl;
            refused = refl;
            total = refl;
            domains = λ d h. get_or-replicate 128 d 0 0 h;
            accepted = λ i h f. absurd (omega arith);
            apart = λ i j h g f e s. absurd (omega arith);
            within = omega arith;
          };
          small = omega arith;
          each = length-replicate {A = ℕ} 128 0;
          used = omega arith;
        };
        prints = λ i h f. absurd (omega arith);
      }

  -- a census from before that was united
  unites_right : (c : Census) (m : List ℕ) (l : Streams) (r : Called) (m' : List ℕ) → HeldBefore R c m l → least_memory ≤ length m → Unites c m r m'
      → Keeps R r.census m' l
  unites_right c m l r m' B enough w =
      let d = unites_done c m r m' w enough in
      rw d.0 (united_keeps R C c l m m' B enough d.1)

  kept : {c : Census} {m : List ℕ} {a w : ℕ} {l : Streams} → Calls R c m a w l → Keeps R c m l × (length l + w ≡ a)
  kept (fresh m) = (fresh_keeps m, refl)
  kept (united c m l r m' B enough w) = (unites_right c m l r m' B enough w, omega arith)
  kept (more c m a w l k r m' calls d) =
      let i = kept calls in
      let q = call_right c m l k r m' i.0 d in
      let s = list_sum R limits (length m) k l in
      let x : withdrawn_by k r.verdict ≡ withdrawn_by k (answer R limits (length m) k l) = ap (withdrawn_by k) q.answered in
      let y : counted_by k r.verdict ≡ counted_by k (answer R limits (length m) k l) = ap (counted_by k) q.answered in
      (q.keeps, omega (arith, i.1, s, x, y))

  module _ (c : Census) (m : List ℕ) (l : Streams) (K : Keeps R c m l) where
    -- the streams of a value's clock
    streams_right : (v : Value) (i : ℕ) → SlotFor m v (used_in c) i → (x : Result ReferenceClock Refusal) → read_reference_clock v ≡ x
        → streams_read c m i x ≡ of_clock R v l
    unfolding streams_in
    streams_right v i s (Err q) e = sym (no_streams R C c m l K v q e)
    streams_right v i s (Ok k) e =
        let f = found R C c m l K v k e i (s.named k e) in
        by_bool (ltb i (used_in c))
        (λ t.
        let h = ltb-true i (used_in c) t in
        simp t (sym (named_count R (G R C) most_clocks (view c m) l K.holds.stands v i h (f.holds h))))
        (λ t.
        let h = ltb-false i (used_in c) t in
        simp t (sym (unnamed_count R (G R C) most_clocks (view c m) l K.holds.stands v (λ j g. f.none j (omega arith)))))

    sum_right : stream_sum m (used_in c) + c.refused ≡ length l
    unfolding stream_sum
    sum_right = clock_sum_lem R (G R C) (used_in c) most_clocks (view c m) l K.holds.stands

    questions_right : QuestionsAsked R c m l
    unfolding domain_count taken_slots
    questions_right =
        record {
          streams = λ v r a.
              let s = slot_for m v (used_in c) in
              a.is s.0 s.1 ∙ ap (asked m) (streams_right v s.0 s.1 (read_reference_clock v) refl);
          clocks = standing R (G R C) most_clocks (view c m) l K.holds.stands;
          clock_sum_lem = omega (arith, sum_right, K.holds.stands.refused, list_parts R l);
          domain = λ d h. simp (lt-ltb d 128 h) (K.holds.stands.domains d h);
          refused = K.holds.stands.refused;
          total = K.holds.stands.total;
        }

pub calls_hold : CallsHold
calls_hold R C c m a w l calls = (kept R C calls).0.holds

pub before_held : BeforeHeld
before_held Q R B C c m l H = record { rule = Q; narrower = was_narrower Q R B C; holds = H }

pub before_united : BeforeUnited
unfolding stream_sum
before_united R C c m l r m' B enough w =
    let d = unites_done c m r m' w enough in
    let e : r.census ≡ c = ap (λ (x : Called). x.census) d.0 in
    let K = unites_right R C c m l r m' B enough w in
    let K' = united_keeps R C c l m m' B enough d.1 in
    let S = widened B.rule R B.narrower (used_in c) most_clocks (view c m) l B.holds.stands in
    record {
      verdict = ap (λ (x : Called). x.verdict) d.0;
      census = e;
      sum = omega (arith, clock_sum_lem R (G R C) 0 most_clocks (view c m) l S, sum_right R C c m' l K');
      holds = K.holds;
      asked = questions_right R C r.census m' l K;
      apart = λ i j hi hj fi fj s. K'.holds.stands.apart i j hi hj fi fj ((C.same (value_at m' i) (value_at m' j)).found s);
    }

pub united_stays : UnitedStays
united_stays R C c m a n l r m' calls w =
    let K = (kept R C calls).0 in
    by_bool (ltb (length m) least_memory)
    (λ t. let d = unites_short c m r m' w (ltb-true (length m) least_memory t) in (ap (λ (x : Called). x.census) d.0, d.1))
    (λ t.
    let d = unites_done c m r m' w (ltb-false (length m) least_memory t) in
    (ap (λ (x : Called). x.census) d.0, stays R C c l m K d.1 (omega arith)))

pub answers_as_list : AnswersAsList
answers_as_list R C c m a w l k r m' calls d = (call_right R C c m l k r m' (kept R C calls).0 d).answered

pub sum_stays : Sum
sum_stays R C c m a w l calls = let i = kept R C calls in omega (arith, sum_right R C c m l i.0, i.1)

pub questions_as_list : QuestionsAsList
questions_as_list R C c m a w l calls = questions_right R C c m l (kept R C calls).0
