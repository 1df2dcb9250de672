-- Withdrawing answers as the list does, and keeps it. Assumes nothing.
use Rattle.std.specs.Prelude.{Result, Ok, Err}
use Prim.Native.Nat.{ℕ, ◌+◌, ◌-◌, ◌*◌, ◌≤◌, ◌<◌, min}
use mathlib.Core.Path.{◌≡◌, refl, sym, ap, ◌∙◌}
use mathlib.Core.List.{List}
use mathlib.Core.Bool.{Bool, true, false, cond, not}
use native.Mathlib.Omega.{arith}
use lib.Dec.{eqb, ltb}
use lib.ListN.{length, get_or}
use lib.Seq.{sets}
use borrow.Author.Tests.{eqb-true, lt-ltb, le-ltb, ltb-true, ltb-false}
use Rattle.text.proofs.Bools.{by_bool}
use Rattle.clock.specs.declared.Refusal.{Refusal}
use Rattle.clock.specs.declared.ReferenceClock.{ReferenceClock}
use Rattle.meaning.specs.ReferenceClock.{read_reference_clock}
use Rattle.meaning.specs.Meaning.{ref_meaning}
use Rattle.streams.specs.Rule.{Value, Rule}
use Rattle.streams.specs.Limits.{limits, least_memory, most_clocks}
use Rattle.streams.specs.Streams.{Streams, number_of, without, is_refused, refused_in, of_clock, like}
use Rattle.streams.specs.Calls.{withdraw, first_of, reasons, answer, next}
use Rattle.streams.specs.declared.Uncounted.TheVariants.{NoMemory, NoStream}
use Rattle.streams.specs.Book.{Stands}
use Rattle.streams.proofs.Lists.{number_most, number_alike, without_alike, length_without}
use Rattle.streams.proofs.Sums.{over_zero}
use Rattle.streams.proofs.Book.{Altered, named_streams, named_count, unnamed_count, withdraws, withdraws_refused}
use Rattle.naming.specs.Domain.{or_none, domain_in}
use Rattle.naming.specs.ClockRule.{is_accepted, ClockRule}
use Rattle.quads.specs.Quad.{quad}
use Rattle.slots.specs.Slot.{slot_size, streams_at, value_at}
use Rattle.slots.specs.Find.{SlotOf, SlotFor}
use Rattle.counts.specs.State.{census, used_in, less, one_less}
use Rattle.counts.specs.declared.Census.{Census}
use Rattle.withdrawing.specs.Withdrawing.{withdraw_refused, withdraw_known, withdraw_clock, withdraw_outcome}
use Rattle.kept.specs.Holds.{view}
use Rattle.kept.specs.Private.Keeps.{Keeps}
use Rattle.kept.proofs.Domains.{less_size}
use Rattle.kept.proofs.Slots.{recounts, prints_recounted}
use Rattle.kept.proofs.Found.{G, is_accepted_lem, Right, right_refuse, right_leave, short_answer, long_answer, found, not_live, one_less_lem}

module _ (R : Rule) (C : ClockRule R) (c : Census) (m : List ℕ) (l : Streams) (K : Keeps R c m l) where
  S : Stands R most_clocks (view c m) l
  S = K.holds.stands

  module _ (t : ltb (length m) least_memory ≡ false) (v : Value) where
    enough : least_memory ≤ length m
    enough = ltb-false (length m) least_memory t

    some_answer : 0 < number_of (like R v) l → answer R limits (length m) (withdraw v) l ≡ (Ok tt)
    unfolding reasons first_of
    some_answer h = long_answer R C m (withdraw v) l t ∙ simp (lt-ltb 0 (number_of (like R v) l) h)

    none_answer : number_of (like R v) l ≡ 0 → answer R limits (length m) (withdraw v) l ≡ Err NoStream
    unfolding reasons first_of
    none_answer e = long_answer R C m (withdraw v) l t ∙ simp (le-ltb 0 (number_of (like R v) l) (omega arith))

    -- a refused value
    withdraw_refused_lem : (q : Refusal) → read_reference_clock v ≡ Err q → (i : ℕ) → Right R C (withdraw_outcome c m v i) c m (withdraw v) l
    unfolding withdraw_outcome withdraw_refused next
    withdraw_refused_lem q e i =
        let a : R.accepted v ≡ false = C.accepted v ∙ ap is_accepted e in
        let same : number_of (like R v) l ≡ refused_in R l = number_alike (like R v) (is_refused R) (λ s. simp a) l in
        by_bool (eqb c.refused 0)
        (λ z. let y = eqb-true c.refused 0 z in right_refuse R C NoStream (simp (t, e, z)) (none_answer (omega (arith, S.refused))) K)
        (λ z.
        let y : 0 < c.refused = over_zero c.refused z in
        let some : 0 < refused_in R l = omega (arith, S.refused) in
        let c' = census c.used (c.total - 1) (c.refused - 1) c.domains in
        right_leave R C c' m (simp (t, e, z)) (some_answer (omega arith))
        (rw (without_alike (like R v) (is_refused R) (λ s. simp a) l)
        (record {
          holds = record {
            stands = withdraws_refused R (G R C) most_clocks (view c m) l S y (view c' m) refl (λ j h. (refl, refl)) refl refl (λ d h. refl);
            small = omega (arith, K.holds.small, length_without (is_refused R) l some);
            each = K.holds.each;
            used = K.holds.used;
          };
          prints = K.prints;
        })))

    -- an accepted one, whose clock has the slot i
    module _ (k : ReferenceClock) (reads : read_reference_clock v ≡ Ok k) (i : ℕ) (s : SlotOf m (ref_meaning v k) (used_in c) i) where
      a : R.accepted v ≡ true
      a = is_accepted_lem R C v k reads

      same : number_of (like R v) l ≡ of_clock R v l
      same = number_alike (like R v) (R.same v) (λ s. simp a) l

      withdraw_none : used_in c ≤ i → Right R C (withdraw_outcome c m v i) c m (withdraw v) l
      unfolding withdraw_outcome withdraw_clock
      withdraw_none h =
          let n = unnamed_count R (G R C) most_clocks (view c m) l S v (λ j g. (found R C c m l K v k reads i s).none j (omega arith)) in
          right_refuse R C NoStream (simp (t, reads, le-ltb i (used_in c) h)) (none_answer (same ∙ n)) K

      withdraw_one : i < used_in c → Right R C (withdraw_outcome c m v i) c m (withdraw v) l
      unfolding withdraw_outcome withdraw_clock withdraw_known one_less next
      withdraw_one h =
          let e = (found R C c m l K v k reads i s).holds h in
          let n = named_count R (G R C) most_clocks (view c m) l S v i h e in
          let o = named_streams R (G R C) most_clocks (view c m) l S v i h e in
          let c' = one_less (or_none (domain_in k)) c in
          let m' = sets m (i * slot_size) (quad (streams_at m i - 1)) in
          let in_i : i * slot_size + slot_size ≤ length m = omega (arith, enough) in
          let some : 0 < of_clock R v l = omega arith in
          right_leave R C c' m' (simp (t, reads, lt-ltb i (used_in c) h)) (some_answer (omega (arith, same)))
          (rw (without_alike (like R v) (R.same v) (λ s. simp a) l)
          (record {
            holds = record {
              stands =
                  withdraws R (G R C) most_clocks (view c m) l S v i h e (view c' m') refl
                  (recounts m i (streams_at m i - 1) in_i c c' (omega (arith, n, number_most (R.same v) l, K.holds.small)) (streams_at m i - 1) refl)
                  refl refl (one_less_lem R C c m l K v k reads);
              small = omega (arith, K.holds.small, length_without (R.same v) l some);
              each = less_size (or_none (domain_in k)) 1 c.domains ∙ K.holds.each;
              used = K.holds.used;
            };
            prints = prints_recounted m i (streams_at m i - 1) in_i (used_in c) K.prints (λ g. not_live R C c m l K i o);
          }))

      withdraw_accepted : Right R C (withdraw_outcome c m v i) c m (withdraw v) l
      withdraw_accepted =
          by_bool (ltb i (used_in c))
          (λ q. withdraw_one (ltb-true i (used_in c) q))
          (λ q. withdraw_none (ltb-false i (used_in c) q))

    by_reading : (i : ℕ) → SlotFor m v (used_in c) i → (x : Result ReferenceClock Refusal) → read_reference_clock v ≡ x
        → Right R C (withdraw_outcome c m v i) c m (withdraw v) l
    by_reading i s (Ok k) e = withdraw_accepted k e i (s.named k e)
    by_reading i s (Err q) e = withdraw_refused_lem q e i

  pub withdraw_right : (v : Value) (i : ℕ) → SlotFor m v (used_in c) i → Right R C (withdraw_outcome c m v i) c m (withdraw v) l
  unfolding withdraw_outcome
  withdraw_right v i s =
      by_bool (ltb (length m) least_memory)
      (λ t. right_refuse R C NoMemory (simp t) (short_answer R C m (withdraw v) l t) K)
      (λ t. by_reading t v i s (read_reference_clock v) refl)
