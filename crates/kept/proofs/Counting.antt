-- Counting answers as the list does, and keeps it. Assumes nothing.
use Rattle.std.specs.Prelude.{Result, Ok, Err}
use Prim.Native.Nat.{ℕ, ◌+◌, ◌*◌, ◌≤◌, ◌<◌, min, max}
use mathlib.Core.Path.{◌≡◌, refl, sym, ap, ◌∙◌, subst}
use mathlib.Core.List.{List, ◌∷◌}
use mathlib.Core.Bool.{Bool, true, false, cond, not, ◌&&◌, ◌||◌}
use native.Mathlib.Omega.{arith}
use lib.Dec.{ltb, leb}
use lib.ListN.{length, get_or}
use lib.Seq.{sets}
use borrow.Author.Tests.{lt-ltb, le-ltb, le-leb, lt-leb, ltb-true, ltb-false, leb-true, leb-false}
use Rattle.text.proofs.Bools.{by_bool}
use Rattle.clock.specs.declared.Refusal.{Refusal}
use Rattle.clock.specs.declared.ReferenceClock.{ReferenceClock}
use Rattle.meaning.specs.ReferenceClock.{read_reference_clock}
use Rattle.meaning.specs.Meaning.{ref_meaning}
use Rattle.equal.specs.Fingerprint.{fingerprint, host_print}
use Rattle.streams.specs.Rule.{Value, Rule}
use Rattle.streams.specs.Limits.{limits, least_memory, most_clocks, most_streams}
use Rattle.streams.specs.Streams.{Streams, is_refused, of_clock, clocks_in}
use Rattle.streams.specs.Calls.{count, fits, first_of, reasons, answer, next}
use Rattle.streams.specs.declared.Uncounted.TheVariants.{NoMemory, TotalFull, ClocksFull}
use Rattle.streams.specs.Book.{Stands}
use Rattle.streams.specs.Private.Entries.{names}
use Rattle.streams.proofs.Lists.{number_most}
use Rattle.streams.proofs.Book.{Altered, named_streams, named_count, unnamed_count, counts_known, counts_refused, counts_new, counts_more, room_yes, room_no}
use Rattle.naming.specs.Domain.{or_none, domain_in}
use Rattle.naming.specs.ClockRule.{is_accepted, ClockRule}
use Rattle.quads.specs.Quad.{quad}
use Rattle.slots.specs.Slot.{slot_size, slot_bytes, streams_at, value_at, is_free, free_slot}
use Rattle.slots.specs.Find.{SlotOf, SlotFor}
use Rattle.counts.specs.State.{census, used_in, plus, more, one_more}
use Rattle.counts.specs.declared.Census.{Census}
use Rattle.counting.specs.Counting.{one_refused_more, count_known, count_new, count_clock, count_outcome}
use Rattle.counting.proofs.Laws.{accepted_short}
use Rattle.kept.specs.Holds.{view}
use Rattle.kept.specs.Private.Keeps.{Keeps}
use Rattle.kept.proofs.Domains.{more_size}
use Rattle.kept.proofs.Slots.{recounts, prints_recounted, renews, prints_renewed}
use Rattle.kept.proofs.Found.{G, is_accepted_lem, Right, right_refuse, right_leave, short_answer, long_answer, found, free, not_live, one_more_lem}

module _ (R : Rule) (C : ClockRule R) (c : Census) (m : List ℕ) (l : Streams) (K : Keeps R c m l) where
  S : Stands R most_clocks (view c m) l
  S = K.holds.stands

  module _ (t : ltb (length m) least_memory ≡ false) (v : Value) (f : leb most_streams c.total ≡ false) where
    enough : least_memory ≤ length m
    enough = ltb-false (length m) least_memory t

    room : length l < most_streams
    room = omega (arith, leb-false most_streams c.total f, S.total)

    count_answer : fits R limits v l ≡ true → answer R limits (length m) (count v) l ≡ (Ok tt)
    unfolding reasons first_of
    count_answer h = long_answer R C m (count v) l t ∙ simp (lt-leb most_streams (length l) room, h)

    -- a refused value
    count_refused : (q : Refusal) → read_reference_clock v ≡ Err q → (i : ℕ) → Right R C (count_outcome c m v i) c m (count v) l
    unfolding count_outcome next
    count_refused q e i =
        let a : R.accepted v ≡ false = C.accepted v ∙ ap is_accepted e in
        right_leave R C (one_refused_more c) m (simp (t, f, e)) (count_answer (simp a))
        (record {
          holds = record {
            stands =
                counts_refused R (G R C) most_clocks (view c m) l S v a (view (one_refused_more c) m) refl (λ j h. (refl, refl))
                (omega (arith, S.refused, number_most (is_refused R) l, room)) (omega (arith, S.total, room)) (λ d h. refl);
            small = omega (arith, room);
            each = K.holds.each;
            used = K.holds.used;
          };
          prints = K.prints;
        })

    -- an accepted one, whose clock has the slot i
    module _ (k : ReferenceClock) (reads : read_reference_clock v ≡ Ok k) (i : ℕ) (s : SlotOf m (ref_meaning v k) (used_in c) i) where
      accepted : R.accepted v ≡ true
      accepted = is_accepted_lem R C v k reads

      count_known_lem : i < used_in c → Right R C (count_outcome c m v i) c m (count v) l
      unfolding count_outcome count_clock count_known one_more next
      count_known_lem h =
          let e = (found R C c m l K v k reads i s).holds h in
          let n = named_count R (G R C) most_clocks (view c m) l S v i h e in
          let o = named_streams R (G R C) most_clocks (view c m) l S v i h e in
          let x : plus (streams_at m i) 1 ≡ streams_at m i + 1 = omega (arith, n, number_most (R.same v) l, room) in
          let c' = one_more (or_none (domain_in k)) c in
          let m' = sets m (i * slot_size) (quad (plus (streams_at m i) 1)) in
          let in_i : i * slot_size + slot_size ≤ length m = omega (arith, enough) in
          let A : Altered (view c m) (view c' m') i (value_at m i) (streams_at m i + 1) =
          recounts m i (plus (streams_at m i) 1) in_i c c' (omega arith) (streams_at m i + 1) x in
          right_leave R C c' m' (simp (t, f, reads, lt-ltb i (used_in c) h))
          (count_answer (simp (accepted, lt-ltb 0 (of_clock R v l) (omega arith))))
          (record {
            holds = record {
              stands =
                  counts_known R (G R C) most_clocks (view c m) l S v i h e (view c' m') refl A
                  refl (omega (arith, S.total, room)) (one_more_lem R C c m l K v k reads room);
              small = omega (arith, room);
              each = more_size (or_none (domain_in k)) 1 c.domains ∙ K.holds.each;
              used = K.holds.used;
            };
            prints = prints_recounted m i (plus (streams_at m i) 1) in_i (used_in c) K.prints (λ g. not_live R C c m l K i o);
          })

      -- a clock that is new
      module _ (h : used_in c ≤ i) where
        unnamed : (j : ℕ) → j < used_in c → names R (view c m) v j ≡ false
        unnamed j g = (found R C c m l K v k reads i s).none j (omega arith)

        none_yet : of_clock R v l ≡ 0
        none_yet = unnamed_count R (G R C) most_clocks (view c m) l S v unnamed

        abbrev j : ℕ
        j = free_slot m (used_in c)

        no_room : most_clocks ≤ j → most_clocks ≤ clocks_in R l
        no_room g = room_no R (G R C) most_clocks (view c m) l S j (free R C c m l K) g

        count_full : most_clocks ≤ j → Right R C (count_outcome c m v i) c m (count v) l
        unfolding count_outcome count_clock count_new reasons first_of
        count_full g =
            right_refuse R C ClocksFull (simp (t, f, reads, le-ltb i (used_in c) h, le-leb most_clocks j g))
            (long_answer R C m (count v) l t
            ∙ simp (lt-leb most_streams (length l) room, accepted, none_yet, le-ltb (clocks_in R l) most_clocks (no_room g)))
            K

        count_new_lem : j < most_clocks → Right R C (count_outcome c m v i) c m (count v) l
        unfolding count_outcome count_clock count_new one_more next
        count_new_lem g =
            let c' = census (max (used_in c) (j + 1)) (plus c.total 1) c.refused (more (or_none (domain_in k)) 1 c.domains) in
            let m' = sets m (j * slot_size) (slot_bytes 1 (fingerprint host_print (ref_meaning v k)) v) in
            let in_j : j * slot_size + slot_size ≤ length m = omega (arith, enough) in
            let short = accepted_short v k reads in
            let A : Altered (view c m) (view c' m') j v 1 = renews m j v k reads in_j short c c' in
            let F = free R C c m l K in
            right_leave R C c' m' (simp (t, f, reads, le-ltb i (used_in c) h, lt-leb most_clocks j g))
            (count_answer (simp (accepted, none_yet, lt-ltb (clocks_in R l) most_clocks (room_yes R (G R C) most_clocks (view c m) l S j F g))))
            (record {
              holds = record {
                stands =
                    by_bool (ltb j (used_in c))
                    (λ y.
                    let b = ltb-true j (used_in c) y in
                    counts_new R (G R C) most_clocks (view c m) l S v accepted unnamed j b (F.holds b) (view c' m') (omega arith) A
                    refl (omega (arith, S.total, room)) (one_more_lem R C c m l K v k reads room))
                    (λ y.
                    let b = ltb-false j (used_in c) y in
                    let e : j ≡ used_in c = omega (arith, F.most) in
                    counts_more R (G R C) most_clocks (view c m) l S v accepted unnamed (omega arith) (view c' m') (omega arith)
                    (subst (λ (x : ℕ). Altered (view c m) (view c' m') x v 1) e A)
                    refl (omega (arith, S.total, room)) (one_more_lem R C c m l K v k reads room));
                small = omega (arith, room);
                each = more_size (or_none (domain_in k)) 1 c.domains ∙ K.holds.each;
                used = omega arith;
              };
              prints = prints_renewed m j v k reads in_j short (used_in c) (used_in c') K.prints F.most (omega arith);
            })

      count_accepted : Right R C (count_outcome c m v i) c m (count v) l
      count_accepted =
          by_bool (ltb i (used_in c))
          (λ q. count_known_lem (ltb-true i (used_in c) q))
          (λ q.
          let h = ltb-false i (used_in c) q in
          by_bool (ltb (free_slot m (used_in c)) most_clocks)
          (λ y. count_new_lem h (ltb-true (free_slot m (used_in c)) most_clocks y))
          (λ y. count_full h (ltb-false (free_slot m (used_in c)) most_clocks y)))

    by_reading : (i : ℕ) → SlotFor m v (used_in c) i → (x : Result ReferenceClock Refusal) → read_reference_clock v ≡ x → Right R C (count_outcome c m v i) c m (count v) l
    by_reading i s (Ok k) e = count_accepted k e i (s.named k e)
    by_reading i s (Err q) e = count_refused q e i

  pub count_right : (v : Value) (i : ℕ) → SlotFor m v (used_in c) i → Right R C (count_outcome c m v i) c m (count v) l
  unfolding count_outcome reasons first_of
  count_right v i s =
      by_bool (ltb (length m) least_memory)
      (λ t. right_refuse R C NoMemory (simp t) (short_answer R C m (count v) l t) K)
      (λ t.
      by_bool (leb most_streams c.total)
      (λ f.
      let h = leb-true most_streams c.total f in
      right_refuse R C TotalFull (simp (t, f)) (long_answer R C m (count v) l t ∙ simp (le-leb most_streams (length l) (omega (arith, S.total)))) K)
      (λ f. by_reading t v f i s (read_reference_clock v) refl))
