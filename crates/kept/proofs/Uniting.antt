-- Uniting makes of a census from before one that keeps the same list under today's rule, and leaves one that keeps it already. Assumes nothing.
use Rattle.std.specs.Prelude.{Ok}
use Prim.Native.Nat.{ℕ, suc, ◌+◌, ◌*◌, ◌≤◌, ◌<◌}
use mathlib.Core.Path.{◌≡◌, refl, sym, ap, ◌∙◌}
use mathlib.Core.List.{List}
use mathlib.Core.Bool.{true, false, not}
use native.Mathlib.Omega.{arith}
use lib.Dec.{eqb, ltb}
use lib.ListN.{length}
use lib.Seq.{length-sets}
use borrow.Author.Tests.{eqb-true, eqb-false, ltb-true, ltb-false, not-true}
use Rattle.text.proofs.Bools.{by_bool, clash, both, and_left, and_right}
use Rattle.clock.specs.declared.ReferenceClock.{ReferenceClock}
use Rattle.meaning.specs.ReferenceClock.{read_reference_clock}
use Rattle.meaning.specs.Meaning.{ref_meaning}
use Rattle.equal.specs.Fingerprint.{fingerprint, host_print}
use Rattle.equal.proofs.Shared.{fingerprint_small}
use Rattle.streams.specs.Rule.{Rule}
use Rattle.streams.specs.Limits.{least_memory, most_clocks, most_streams}
use Rattle.streams.specs.Streams.{Streams}
use Rattle.streams.specs.Book.{StandsTo}
use Rattle.streams.specs.Private.Entries.{names}
use Rattle.streams.proofs.Sums.{below, First}
use Rattle.streams.proofs.Book.{Altered}
use Rattle.streams.proofs.Widened.{widened, carried, further, two_fit, said_again, joined_alike}
use Rattle.naming.specs.ClockRule.{ClockRule}
use Rattle.naming.proofs.ClockRule.{accepted_by}
use Rattle.quads.specs.Quad.{quad}
use Rattle.slots.specs.Slot.{slot_size, streams_at, print_at, value_at, is_free}
use Rattle.slots.specs.Find.{SlotFor}
use Rattle.slots.proofs.Change.{other_streams, other_print, other_value, reprints_inside, reprinted_streams, reprinted_print, reprinted_value}
use Rattle.counts.specs.State.{used_in, plus}
use Rattle.counts.specs.declared.Census.{Census}
use Rattle.joining.specs.Joining.{added_memory, joined_memory}
use Rattle.uniting.specs.Uniting.{reprinted, united_slot, United, none, more}
use Rattle.uniting.proofs.Slot.{print_stays, print_stored, free_slot_lem, known_slot, new_slot}
use Rattle.kept.specs.Holds.{view, HeldBefore}
use Rattle.kept.specs.Private.Keeps.{Prints, Keeps}
use Rattle.kept.proofs.Slots.{print_is, print_carried, recounts, prints_recounted}
use Rattle.kept.proofs.Found.{G, found_among}

-- the slot i has the fingerprint p, and all else is what it was
record Reprints (m : List ℕ) (i p : ℕ) (m' : List ℕ) : Type 0 where
  size : length m' ≡ length m
  streams : (j : ℕ) → streams_at m' j ≡ streams_at m j
  value : (j : ℕ) → value_at m' j ≡ value_at m j
  print : print_at m' i ≡ p
  others : (j : ℕ) → (j ≡ i → ⊥) → print_at m' j ≡ print_at m j

reprints : (m : List ℕ) (i p : ℕ) → i * slot_size + slot_size ≤ length m → p < 4294967296 → Reprints m i p (reprinted m i p)
reprints m i p inside small =
    by_bool (eqb (print_at m i) p)
    (λ t.
    let e = eqb-true (print_at m i) p t in
    rw (print_stays m i p e) (record { size = refl; streams = λ j. refl; value = λ j. refl; print = e; others = λ j x. refl }))
    (λ t.
    rw (print_stored m i p (eqb-false (print_at m i) p t))
    (record {
      size = length-sets m (i * slot_size + 4) (quad p);
      streams = λ j.
          by_bool (eqb j i)
          (λ s. let e = eqb-true j i s in rw e (reprinted_streams m i p))
          (λ s. other_streams m i (i * slot_size + 4) (quad p) (reprints_inside m i p) j (eqb-false j i s));
      value = λ j.
          by_bool (eqb j i)
          (λ s. let e = eqb-true j i s in rw e (reprinted_value m i p))
          (λ s. other_value m i (i * slot_size + 4) (quad p) (reprints_inside m i p) j (eqb-false j i s));
      print = reprinted_print m i p inside small;
      others = λ j x. other_print m i (i * slot_size + 4) (quad p) (reprints_inside m i p) j x;
    }))

-- the fingerprints of the first n and of one more
prints_further : (m : List ℕ) (n : ℕ) → Prints m n
    → (is_free m n ≡ false → (k : ReferenceClock) → read_reference_clock (value_at m n) ≡ Ok k
    → print_at m n ≡ fingerprint host_print (ref_meaning (value_at m n) k))
    → Prints m (suc n)
prints_further m n P last i h f =
    by_bool (eqb i n)
    (λ t. let e = eqb-true i n t in rw e (last (rw e at f)))
    (λ t. P i (below i n (omega arith) t) f)

module _ (R : Rule) (C : ClockRule R) (c : Census) (l : Streams) where
  -- the first n slots were gone over
  record UnitedTo (n : ℕ) (m : List ℕ) : Type 0 where
    enough : least_memory ≤ length m
    stands : StandsTo n R most_clocks (view c m) l
    prints : Prints m n

  -- the next one
  module _ (small : length l ≤ most_streams) (m : List ℕ) (n : ℕ) (h : n < used_in c) (U : UnitedTo n m) (j : ℕ) (s : SlotFor m (value_at m n) n j) where
    in_n : n * slot_size + slot_size ≤ length m
    in_n = omega (arith, U.enough, h)

    is_free_lem : is_free m n ≡ true → UnitedTo (suc n) (united_slot m n j)
    is_free_lem f =
        rw (free_slot_lem m n j f)
        (record {
          enough = U.enough;
          stands = further n R most_clocks (view c m) l U.stands (G R C) (λ i g live. clash (cc (f, live)));
          prints = prints_further m n U.prints (λ live. clash (cc (f, live)));
        })

    module _ (f : is_free m n ≡ false) (k : ReferenceClock) (reads : read_reference_clock (value_at m n) ≡ Ok k) where
      F : First (names R (view c m) (value_at m n)) n j
      F = found_among R C c m n U.prints (value_at m n) k reads j (s.named k reads)

      -- a slot before it is that of its clock
      module _ (g : j < n) where
        live_j : is_free m j ≡ false
        live_j = not-true (is_free m j) (and_left (not (is_free m j)) (R.same (value_at m n) (value_at m j)) (F.holds g))

        one_clock : R.same (value_at m n) (value_at m j) ≡ true
        one_clock = and_right (not (is_free m j)) (R.same (value_at m n) (value_at m j)) (F.holds g)

        abbrev all : ℕ
        all = plus (streams_at m j) (streams_at m n)

        all_is : all ≡ streams_at m j + streams_at m n
        all_is =
            omega (
              arith,
              small,
              two_fit n R most_clocks (view c m) l U.stands (G R C) n j h (omega arith) (λ e. omega arith) (U.stands.accepted n h f) one_clock,
            )

        in_j : j * slot_size + slot_size ≤ length m
        in_j = omega (arith, in_n)

        size : length (added_memory m n j) ≡ length m
        size = length-sets m (j * slot_size) (quad all)

        in_n_then : n * slot_size + slot_size ≤ length (added_memory m n j)
        in_n_then = omega (arith, size, in_n)

        emptied : Altered (view c (added_memory m n j)) (view c (joined_memory m n j)) n (value_at (added_memory m n j) n) 0
        emptied = recounts (added_memory m n j) n 0 in_n_then c c (omega arith) 0 refl

        stands_joined : StandsTo n R most_clocks (view c (joined_memory m n j)) l
        stands_joined =
            carried n R most_clocks (view c m) l U.stands (omega arith) (view c (joined_memory m n j))
            (joined_alike R (view c m) (view c (added_memory m n j)) (view c (joined_memory m n j)) n j h (omega arith) (λ e. omega arith) live_j one_clock
            refl refl (recounts m j all in_j c c (omega arith) (streams_at m j + streams_at m n) all_is) emptied refl refl (λ d y. refl))

        prints_joined : Prints (joined_memory m n j) n
        prints_joined =
            prints_recounted (added_memory m n j) n 0 in_n_then n (prints_recounted m j all in_j n U.prints (λ y. live_j)) (λ y. absurd (omega arith))

        is_joined : UnitedTo (suc n) (united_slot m n j)
        is_joined =
            let never : is_free (joined_memory m n j) n ≡ false → ⊥ = λ live. eqb-false (streams_at (joined_memory m n j) n) 0 live emptied.streams in
            rw (known_slot m n j f k reads g)
            (record {
              enough = omega (arith, U.enough, size, length-sets (added_memory m n j) (n * slot_size) (quad 0));
              stands = further n R most_clocks (view c (joined_memory m n j)) l stands_joined (G R C) (λ i y live. absurd (never live));
              prints = prints_further (joined_memory m n j) n prints_joined (λ live. absurd (never live));
            })

      -- none is
      is_new : n ≤ j → UnitedTo (suc n) (united_slot m n j)
      is_new g =
          let p = fingerprint host_print (ref_meaning (value_at m n) k) in
          let m' = reprinted m n p in
          let W = reprints m n p in_n (fingerprint_small host_print (ref_meaning (value_at m n) k)) in
          let S = further n R most_clocks (view c m) l U.stands (G R C) (λ i y live there.
          by_bool (R.same (value_at m n) (value_at m i))
          (λ t. clash (cc (F.none i (omega arith), both (ap not there) t)))
          (λ t. t)) in
          rw (new_slot m n j f k reads g)
          (record {
            enough = omega (arith, U.enough, W.size);
            stands =
                carried (suc n) R most_clocks (view c m) l S (omega arith) (view c m')
                (said_again R (view c m) (view c m') refl refl refl (λ d y. refl) W.value W.streams);
            prints =
                prints_further m' n
                (λ i y live.
                print_carried m m' i (W.others i (λ e. omega arith)) (W.value i)
                (U.prints i y (ap (λ (z : ℕ). eqb z 0) (sym (W.streams i)) ∙ live)))
                (λ live. print_is m' n (value_at m n) k reads (W.value n) W.print);
          })

    one_more_lem : UnitedTo (suc n) (united_slot m n j)
    one_more_lem =
        by_bool (is_free m n) is_free_lem
        (λ f.
        let a = accepted_by (value_at m n) (sym (C.accepted (value_at m n)) ∙ U.stands.accepted n h f) in
        by_bool (ltb j n)
        (λ t. is_joined f a.0 a.1 (ltb-true j n t))
        (λ t. is_new f a.0 a.1 (ltb-false j n t)))

  all_gone_over : {m m₁ : List ℕ} {n : ℕ} → length l ≤ most_streams → UnitedTo 0 m → United m n m₁ → n ≤ used_in c → UnitedTo n m₁
  all_gone_over small U none h = U
  all_gone_over small U (more n j m₁ u s) h = one_more_lem small m₁ n (omega arith) (all_gone_over small U u (omega arith)) j s

  -- all of them
  pub united_keeps : (m m₁ : List ℕ) → HeldBefore R c m l → least_memory ≤ length m → United m (used_in c) m₁ → Keeps R c m₁ l
  united_keeps m m₁ B enough u =
      let H = B.holds in
      let S = widened B.rule R B.narrower (used_in c) most_clocks (view c m) l H.stands in
      let U = all_gone_over H.small (record { enough = enough; stands = S; prints = λ i h. absurd (omega arith) }) u (omega arith) in
      record { holds = record { stands = U.stands; small = H.small; each = H.each; used = H.used }; prints = U.prints }

  -- where a list is kept already, nothing is done
  module _ (m : List ℕ) (K : Keeps R c m l) where
    slot_stays : (n : ℕ) → n < used_in c → (j : ℕ) → SlotFor m (value_at m n) n j → united_slot m n j ≡ m
    slot_stays n h j s =
        by_bool (is_free m n)
        (λ f. free_slot_lem m n j f)
        (λ f.
        let a = accepted_by (value_at m n) (sym (C.accepted (value_at m n)) ∙ K.holds.stands.accepted n h f) in
        let F = found_among R C c m n (λ i y. K.prints i (omega arith)) (value_at m n) a.0 a.1 j (s.named a.0 a.1) in
        by_bool (ltb j n)
        (λ t.
        let g = ltb-true j n t in
        let same = and_right (not (is_free m j)) (R.same (value_at m n) (value_at m j)) (F.holds g) in
        let live = not-true (is_free m j) (and_left (not (is_free m j)) (R.same (value_at m n) (value_at m j)) (F.holds g)) in
        let e : n ≡ j = K.holds.stands.apart n j h (omega arith) f live same in
        absurd (omega arith))
        (λ t.
        new_slot m n j f a.0 a.1 (ltb-false j n t)
        ∙ print_stays m n (fingerprint host_print (ref_meaning (value_at m n) a.0)) (K.prints n h f a.0 a.1)))

    pub united_stays : {m₁ : List ℕ} {n : ℕ} → United m n m₁ → n ≤ used_in c → m₁ ≡ m
    united_stays none h = refl
    united_stays (more n j m₁ u s) h =
        let e : m₁ ≡ m = united_stays u (omega arith) in
        rw e (slot_stays n (omega arith) j (rw e at s))
