-- Joining answers as the list does, and keeps it. Assumes nothing.
use Rattle.std.specs.Prelude.{Result, Ok, Err}
use Prim.Native.Nat.{ℕ, ◌+◌, ◌-◌, ◌*◌, ◌≤◌, ◌<◌, min}
use mathlib.Core.Path.{◌≡◌, refl, sym, ap, ◌∙◌}
use mathlib.Core.List.{List, map}
use mathlib.Core.Bool.{Bool, true, false, cond, not, ◌&&◌}
use native.Mathlib.Omega.{arith}
use lib.Dec.{eqb, ltb}
use lib.ListN.{length, get_or}
use lib.Seq.{sets, length-sets}
use borrow.Author.Tests.{eq-eqb, ne_eqb, eqb-true, eqb-false, lt-ltb, ltb-true, ltb-false}
use Rattle.text.proofs.Bools.{by_bool, clash}
use Rattle.clock.specs.declared.Refusal.{Refusal}
use Rattle.clock.specs.declared.ReferenceClock.{ReferenceClock}
use Rattle.meaning.specs.ReferenceClock.{read_reference_clock}
use Rattle.meaning.specs.Meaning.{ref_meaning}
use Rattle.streams.specs.Rule.{Value, Rule, is, has_domain}
use Rattle.streams.specs.Limits.{limits, least_memory, most_clocks, most_streams}
use Rattle.streams.specs.Streams.{Streams, of_clock, moved, joined}
use Rattle.streams.specs.Calls.{join, first_of, reasons, answer, next}
use Rattle.streams.specs.declared.Uncounted.TheVariants.{NoMemory, NoStream}
use Rattle.streams.specs.Book.{Stands}
use Rattle.streams.specs.Private.Entries.{names}
use Rattle.streams.proofs.Lists.{number_most, number_within, number_apart, number_none, length_map}
use Rattle.streams.proofs.Book.{Altered, named_streams, named_same, named_count, unnamed_count, joins}
use Rattle.naming.specs.Domain.{or_none, domain_in}
use Rattle.naming.specs.ClockRule.{is_accepted, ClockRule}
use Rattle.quads.specs.Quad.{quad}
use Rattle.slots.specs.Slot.{slot_size, streams_at, value_at, is_free}
use Rattle.slots.specs.Find.{SlotOf, SlotFor}
use Rattle.slots.proofs.Change.{other_streams, recounts_inside}
use Rattle.counts.specs.State.{census, used_in, plus, more, less}
use Rattle.counts.specs.declared.Census.{Census}
use Rattle.joining.specs.Joining.{added_memory, joined_memory, join_slots, join_clocks, join_read, join_outcome}
use Rattle.kept.specs.Holds.{view}
use Rattle.kept.specs.Private.Keeps.{Prints, Keeps}
use Rattle.kept.proofs.Domains.{more_count, less_count, more_size, less_size}
use Rattle.kept.proofs.Slots.{recounts, prints_recounted}
use Rattle.kept.proofs.Found.{G, is_accepted_lem, Right, right_refuse, right_leave, short_answer, long_answer, found, not_live, domain_is}

module _ (R : Rule) (C : ClockRule R) (c : Census) (m : List ℕ) (l : Streams) (K : Keeps R c m l) where
  S : Stands R most_clocks (view c m) l
  S = K.holds.stands

  -- a refused value has no streams
  pub no_streams : (v : Value) (q : Refusal) → read_reference_clock v ≡ Err q → of_clock R v l ≡ 0
  no_streams v q e =
      number_none (R.same v) (λ s. by_bool (R.same v s) (λ y. clash (cc ((G R C).first v s y, C.accepted v ∙ ap is_accepted e))) (λ y. y)) l

  module _ (t : ltb (length m) least_memory ≡ false) (v w : Value) where
    enough : least_memory ≤ length m
    enough = ltb-false (length m) least_memory t

    no_first : of_clock R v l ≡ 0 → answer R limits (length m) (join v w) l ≡ Err NoStream
    unfolding reasons first_of
    no_first e = long_answer R C m (join v w) l t ∙ simp e

    no_second : of_clock R w l ≡ 0 → answer R limits (length m) (join v w) l ≡ Err NoStream
    unfolding reasons first_of
    no_second e = long_answer R C m (join v w) l t ∙ by_bool (ltb 0 (of_clock R v l)) (λ y. simp (y, e)) (λ y. simp y)

    -- two accepted values, whose clocks have the slots i and j
    module _ (from into : ReferenceClock) (reads : read_reference_clock v ≡ Ok from) (reads' : read_reference_clock w ≡ Ok into)
        (i j : ℕ) (s : SlotOf m (ref_meaning v from) (used_in c) i) (s' : SlotOf m (ref_meaning w into) (used_in c) j) where
      -- both are there
      module _ (hi : i < used_in c) (hj : j < used_in c) where
        ei : names R (view c m) v i ≡ true
        ei = (found R C c m l K v from reads i s).holds hi

        ej : names R (view c m) w j ≡ true
        ej = (found R C c m l K w into reads' j s').holds hj

        ni : of_clock R v l ≡ streams_at m i
        ni = named_count R (G R C) most_clocks (view c m) l S v i hi ei

        nj : of_clock R w l ≡ streams_at m j
        nj = named_count R (G R C) most_clocks (view c m) l S w j hj ej

        si : 0 < streams_at m i
        si = named_streams R (G R C) most_clocks (view c m) l S v i hi ei

        sj : 0 < streams_at m j
        sj = named_streams R (G R C) most_clocks (view c m) l S w j hj ej

        qi : R.same v (value_at m i) ≡ true
        qi = named_same R (G R C) most_clocks (view c m) l S v i hi ei

        qj : R.same w (value_at m j) ≡ true
        qj = named_same R (G R C) most_clocks (view c m) l S w j hj ej

        join_answer : answer R limits (length m) (join v w) l ≡ (Ok tt)
        unfolding reasons first_of
        join_answer =
            long_answer R C m (join v w) l t
            ∙ simp (lt-ltb 0 (of_clock R v l) (omega (arith, ni, si)), lt-ltb 0 (of_clock R w l) (omega (arith, nj, sj)))

        one_clock : i ≡ j → R.same v w ≡ true
        one_clock e = (G R C).on v (value_at m i) w qi ((G R C).back w (value_at m i) (ap (λ (x : ℕ). R.same w (value_at m x)) e ∙ qj))

        two_clocks : (i ≡ j → ⊥) → R.same v w ≡ false
        two_clocks x =
            by_bool (R.same v w)
            (λ y. absurd (x (S.apart i j hi hj (ne_eqb (streams_at m i) 0 (λ z. omega (arith, si))) (ne_eqb (streams_at m j) 0 (λ z. omega (arith, sj)))
            ((G R C).on (value_at m i) v (value_at m j) ((G R C).back v (value_at m i) qi) ((G R C).on v w (value_at m j) y qj)))))
            (λ y. y)

        join_same : i ≡ j → Right R C (join_outcome c m v w i j) c m (join v w) l
        unfolding join_outcome join_clocks join_slots next joined
        join_same e =
            right_leave R C c m (simp (t, reads, reads', lt-ltb i (used_in c) hi, lt-ltb j (used_in c) hj, eq-eqb i j e)) join_answer (simp (one_clock e) K)

        abbrev n : ℕ
        n = streams_at m i

        abbrev both : ℕ
        both = plus (streams_at m j) (streams_at m i)

        in_i : i * slot_size + slot_size ≤ length m
        in_i = omega (arith, enough, hi)

        in_j : j * slot_size + slot_size ≤ length m
        in_j = omega (arith, enough, hj)

        size : length (added_memory m i j) ≡ length m
        size = length-sets m (j * slot_size) (quad both)

        join_prints : (i ≡ j → ⊥) → Prints (joined_memory m i j) (used_in c)
        join_prints x =
            let q : streams_at (added_memory m i j) i ≡ streams_at m i = other_streams m j (j * slot_size) (quad both) (recounts_inside m j both) i x in
            prints_recounted (added_memory m i j) i 0 (omega (arith, size, in_i)) (used_in c)
            (prints_recounted m j both in_j (used_in c) K.prints (λ g. not_live R C c m l K j sj))
            (λ g. ap (λ (y : ℕ). eqb y 0) q ∙ not_live R C c m l K i si)

        domain_moved : (d : ℕ) → d < 128
            → get_or (more (or_none (domain_in into)) n (less (or_none (domain_in from)) n c.domains)) d 0
            ≡ get_or c.domains d 0 - cond (has_domain R d v) n 0 + cond (has_domain R d w) n 0
        domain_moved d h =
            let ev : cond (eqb (or_none (domain_in from)) d) n 0 ≡ cond (has_domain R d v) n 0 =
            ap (λ (x : Bool). cond x n 0) (domain_is R C c m l K v from reads d h) in
            let ew : cond (eqb (or_none (domain_in into)) d) n 0 ≡ cond (has_domain R d w) n 0 =
            ap (λ (x : Bool). cond x n 0) (domain_is R C c m l K w into reads' d h) in
            let z : length (less (or_none (domain_in from)) n c.domains) ≡ 128 = less_size (or_none (domain_in from)) n c.domains ∙ K.holds.each in
            let e₁ = less_count (or_none (domain_in from)) n d c.domains K.holds.each h in
            let bound : get_or (less (or_none (domain_in from)) n c.domains) d 0 + n ≤ most_streams =
            by_bool (has_domain R d v)
            (λ y.
            let a = number_within (has_domain R d) (R.same v) (λ x q. ap (is d) (sym ((G R C).one_domain v x q)) ∙ y) l in
            omega (arith, e₁, simp y at ev, ni, S.domains d h, number_most (has_domain R d) l, K.holds.small))
            (λ y.
            let a = number_apart (has_domain R d) (R.same v) (λ x q. ap (is d) (sym ((G R C).one_domain v x q)) ∙ y) l in
            omega (arith, e₁, simp y at ev, ni, S.domains d h, K.holds.small)) in
            let e₂ = more_count (or_none (domain_in into)) n d (less (or_none (domain_in from)) n c.domains) z h (λ e. bound) in
            omega (arith, e₁, e₂, ev, ew)

        join_two : (i ≡ j → ⊥) → Right R C (join_outcome c m v w i j) c m (join v w) l
        unfolding join_outcome join_clocks join_slots next joined
        join_two x =
            let apart = two_clocks x in
            let disjoint : of_clock R v l + of_clock R w l ≤ length l =
            number_apart (R.same v) (R.same w) (λ z e. by_bool (R.same v z) (λ y. clash (cc (apart, (G R C).on v z w y ((G R C).back w z e)))) (λ y. y)) l in
            let sum_is : both ≡ streams_at m j + streams_at m i = omega (arith, disjoint, ni, nj, K.holds.small) in
            let c' = census c.used c.total c.refused (more (or_none (domain_in into)) n (less (or_none (domain_in from)) n c.domains)) in
            let m₁ = added_memory m i j in
            let m₂ = joined_memory m i j in
            let A₁ : Altered (view c m) (view c m₁) j (value_at m j) (streams_at m j + streams_at m i) =
            recounts m j both in_j c c (omega arith) (streams_at m j + streams_at m i) sum_is in
            let A₂ : Altered (view c m₁) (view c' m₂) i (value_at m₁ i) 0 =
            recounts m₁ i 0 (omega (arith, size, in_i)) c c' (omega arith) 0 refl in
            right_leave R C c' m₂ (simp (t, reads, reads', lt-ltb i (used_in c) hi, lt-ltb j (used_in c) hj, ne_eqb i j x)) join_answer
            (simp apart
            (record {
              holds = record {
                stands =
                    joins R (G R C) most_clocks (view c m) l S v w apart i j hi hj ei ej (view c m₁) (view c' m₂) refl refl A₁ A₂ refl refl domain_moved;
                small = omega (arith, K.holds.small, length_map (moved R v w) l);
                each =
                    more_size (or_none (domain_in into)) n (less (or_none (domain_in from)) n c.domains)
                    ∙ less_size (or_none (domain_in from)) n c.domains ∙ K.holds.each;
                used = K.holds.used;
              };
              prints = join_prints x;
            }))

      join_accepted : Right R C (join_outcome c m v w i j) c m (join v w) l
      unfolding join_outcome join_clocks
      join_accepted =
          by_bool (ltb i (used_in c))
          (λ p.
          by_bool (ltb j (used_in c))
          (λ q.
          let hi = ltb-true i (used_in c) p in
          let hj = ltb-true j (used_in c) q in
          by_bool (eqb i j)
          (λ y. join_same hi hj (eqb-true i j y))
          (λ y. join_two hi hj (eqb-false i j y)))
          (λ q.
          let h = ltb-false j (used_in c) q in
          right_refuse R C NoStream (simp (t, reads, reads', p, q))
          (no_second (unnamed_count R (G R C) most_clocks (view c m) l S w (λ x g. (found R C c m l K w into reads' j s').none x (omega arith)))) K))
          (λ p.
          let h = ltb-false i (used_in c) p in
          right_refuse R C NoStream (simp (t, reads, reads', p))
          (no_first (unnamed_count R (G R C) most_clocks (view c m) l S v (λ x g. (found R C c m l K v from reads i s).none x (omega arith)))) K)

    by_reading : (i j : ℕ) → SlotFor m v (used_in c) i → SlotFor m w (used_in c) j → (x y : Result ReferenceClock Refusal) → read_reference_clock v ≡ x
        → read_reference_clock w ≡ y → Right R C (join_outcome c m v w i j) c m (join v w) l
    unfolding join_outcome
    by_reading i j s u (Ok from) (Ok into) e f = join_accepted from into e f i j (s.named from e) (u.named into f)
    by_reading i j s u (Ok from) (Err q) e f = right_refuse R C NoStream (simp (t, e, f)) (no_second (no_streams w q f)) K
    by_reading i j s u (Err q) y e f = right_refuse R C NoStream (simp (t, e)) (no_first (no_streams v q e)) K

  pub join_right : (v w : Value) (i j : ℕ) → SlotFor m v (used_in c) i → SlotFor m w (used_in c) j → Right R C (join_outcome c m v w i j) c m (join v w) l
  unfolding join_outcome
  join_right v w i j s u =
      by_bool (ltb (length m) least_memory)
      (λ t. right_refuse R C NoMemory (simp t) (short_answer R C m (join v w) l t) K)
      (λ t. by_reading t v w i j s u (read_reference_clock v) (read_reference_clock w) refl refl)
