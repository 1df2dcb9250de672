-- What every call owes, and what looking for a slot tells of a census that keeps a list. Assumes nothing.
use Rattle.std.specs.Prelude.{Ok, Err}
use Prim.Native.Nat.{ℕ, ◌+◌, ◌-◌, ◌≤◌, ◌<◌, min}
use mathlib.Core.Path.{◌≡◌, refl, sym, ap, ◌∙◌}
use mathlib.Core.List.{List}
use mathlib.Core.Bool.{Bool, true, false, cond, not, ◌&&◌}
use native.Mathlib.Omega.{arith}
use lib.Dec.{eqb, ltb}
use lib.ListN.{length, get_or}
use borrow.Author.Tests.{ne_eqb, eqb-false, not-true}
use Rattle.text.proofs.Bools.{by_bool, clash, both, and_left, and_right}
use Rattle.clock.specs.declared.ReferenceClock.{ReferenceClock}
use Rattle.meaning.specs.ReferenceClock.{read_reference_clock}
use Rattle.meaning.specs.Meaning.{ref_meaning}
use Rattle.equal.specs.Alike.{OneClock, hosts_alike}
use Rattle.equal.specs.Fingerprint.{fingerprint, host_print}
use Rattle.equal.proofs.Shared.{one_clock_shares}
use Rattle.questions.specs.SameClock.{SameClock}
use Rattle.streams.specs.Rule.{Value, Rule, Lawful, is, has_domain}
use Rattle.streams.specs.Limits.{limits, least_memory, most_streams}
use Rattle.streams.specs.Streams.{Streams, bit, number_of, in_domain}
use Rattle.streams.specs.Calls.{Call, first_of, reasons, answer, next, after}
use Rattle.streams.specs.declared.Uncounted.{Uncounted}
use Rattle.streams.specs.declared.Uncounted.TheVariants.{NoMemory}
use Rattle.streams.specs.Private.Entries.{names}
use Rattle.streams.proofs.Lists.{number_most}
use Rattle.streams.proofs.Sums.{First, first_tells}
use Rattle.naming.specs.Domain.{or_none, domain_in, domain_of}
use Rattle.naming.specs.ClockRule.{is_accepted, ClockRule}
use Rattle.naming.proofs.ClockRule.{accepted_domain, is_lawful}
use Rattle.slots.specs.Slot.{streams_at, print_at, value_at, is_free, free_slot}
use Rattle.slots.specs.Find.{OfClock, SlotOf}
use Rattle.slots.proofs.Slots.{one_record}
use Rattle.counts.specs.State.{used_in, more, less}
use Rattle.counts.specs.Outcome.{Outcome, leaves, refuses, called_with, memory_after}
use Rattle.counts.specs.declared.Census.{Census}
use Rattle.kept.specs.Holds.{view}
use Rattle.kept.specs.Private.Keeps.{Prints, Keeps}
use Rattle.kept.proofs.Domains.{is_number, bit_of, more_count, less_count}

module _ (R : Rule) (C : ClockRule R) where
  pub G : Lawful R
  G = is_lawful R C

  pub is_accepted_lem : (v : Value) (k : ReferenceClock) → read_reference_clock v ≡ Ok k → R.accepted v ≡ true
  is_accepted_lem v k e = C.accepted v ∙ ap is_accepted e

  -- what a call's outcome owes
  pub record Right (o : Outcome) (c : Census) (m : List ℕ) (k : Call) (l : Streams) : Type 0 where
    pub answered : (called_with o c).verdict ≡ answer R limits (length m) k l
    pub keeps : Keeps R (called_with o c).census (memory_after o m) (after R limits (length m) k l)

  module _ {o : Outcome} {c : Census} {m : List ℕ} {k : Call} {l : Streams} where
    pub right_refuse : (why : Uncounted) → o ≡ refuses why → answer R limits (length m) k l ≡ Err why → Keeps R c m l → Right o c m k l
    unfolding after
    right_refuse why e f w = rw e (record { answered = sym f; keeps = simp f w })

    pub right_leave : (c' : Census) (m' : List ℕ) → o ≡ leaves c' m' → answer R limits (length m) k l ≡ (Ok tt) → Keeps R c' m' (next R limits k l)
        → Right o c m k l
    unfolding after
    right_leave c' m' e f w = rw e (record { answered = sym f; keeps = simp f w })

  pub short_answer : (m : List ℕ) (k : Call) (l : Streams) → ltb (length m) least_memory ≡ true → answer R limits (length m) k l ≡ Err NoMemory
  unfolding answer first_of
  short_answer m k l t = simp t

  pub long_answer : (m : List ℕ) (k : Call) (l : Streams) → ltb (length m) least_memory ≡ false
      → answer R limits (length m) k l ≡ first_of (reasons R limits k l)
  unfolding answer first_of
  long_answer m k l t = simp t

  -- the slot of the clock k, which v names, among the first n
  module _ (c : Census) (m : List ℕ) (n : ℕ) (P : Prints m n) (v : Value) (k : ReferenceClock) (reads : read_reference_clock v ≡ Ok k) (i : ℕ)
      (s : SlotOf m (ref_meaning v k) n i) where
    named_there : (j : ℕ) → OfClock m (ref_meaning v k) j → names R (view c m) v j ≡ true
    named_there j o =
        both (ap not (ne_eqb (streams_at m j) 0 o.taken))
        ((C.same v (value_at m j)).found (record { first = k; second = o.clock; is_first = reads; is_second = o.reads; one = o.one }))

    of_clock_lem : (j : ℕ) → j < n → names R (view c m) v j ≡ true → OfClock m (ref_meaning v k) j
    of_clock_lem j h t =
        let live : is_free m j ≡ false = not-true (is_free m j) (and_left (not (is_free m j)) (R.same v (value_at m j)) t) in
        let q = (C.same v (value_at m j)).right (and_right (not (is_free m j)) (R.same v (value_at m j)) t) in
        let e : q.first ≡ k = one_record q.first k (sym q.is_first ∙ reads) in
        let o : OneClock hosts_alike (ref_meaning v k) (ref_meaning (value_at m j) q.second) = rw e at q.one in
        record {
          taken = λ z. eqb-false (streams_at m j) 0 live z;
          print = P j h live q.second q.is_second ∙ sym (one_clock_shares (ref_meaning v k) (ref_meaning (value_at m j) q.second) o);
          clock = q.second;
          reads = q.is_second;
          one = o;
        }

    pub found_among : First (names R (view c m) v) n i
    found_among =
        record {
          most = s.most;
          holds = λ h. named_there i (s.there h);
          none = λ j h.
              by_bool (names R (view c m) v j)
              (λ t. absurd (s.none_before j h (of_clock_lem j (omega (arith, s.most)) t)))
              (λ t. t);
        }

  module _ (c : Census) (m : List ℕ) (l : Streams) (K : Keeps R c m l) where
    pub found : (v : Value) (k : ReferenceClock) → read_reference_clock v ≡ Ok k → (i : ℕ) → SlotOf m (ref_meaning v k) (used_in c) i
        → First (names R (view c m) v) (used_in c) i
    found = found_among c m (used_in c) K.prints

    pub free : First (is_free m) (used_in c) (free_slot m (used_in c))
    unfolding free_slot
    free = first_tells (is_free m) (used_in c)

    pub not_live : (j : ℕ) → 0 < streams_at m j → is_free m j ≡ false
    not_live j h = ne_eqb (streams_at m j) 0 (λ e. omega arith)

    pub domain_small : (d : ℕ) → d < 128 → get_or c.domains d 0 ≤ length l
    domain_small d h = omega (arith, K.holds.stands.domains d h, number_most (has_domain R d) l)

    -- the domain number of the clock k, which v names
    pub domain_is : (v : Value) (k : ReferenceClock) → read_reference_clock v ≡ Ok k → (d : ℕ) → d < 128
        → eqb (or_none (domain_in k)) d ≡ has_domain R d v
    domain_is v k e d h = sym (is_number d h (domain_in k)) ∙ ap (is d) (sym (C.domain v ∙ accepted_domain v k e))

    -- one stream more, or less, of that domain
    module _ (v : Value) (k : ReferenceClock) (reads : read_reference_clock v ≡ Ok k) where
      pub one_more_lem : length l < most_streams → (d : ℕ) → d < 128
          → get_or (more (or_none (domain_in k)) 1 c.domains) d 0 ≡ get_or c.domains d 0 + bit (has_domain R d v)
      one_more_lem s d h =
          more_count (or_none (domain_in k)) 1 d c.domains K.holds.each h (λ e. omega (arith, domain_small d h))
          ∙ ap (λ (x : ℕ). get_or c.domains d 0 + x) (bit_of (eqb (or_none (domain_in k)) d) ∙ ap bit (domain_is v k reads d h))

      pub one_less_lem : (d : ℕ) → d < 128 → get_or (less (or_none (domain_in k)) 1 c.domains) d 0 ≡ get_or c.domains d 0 - bit (has_domain R d v)
      one_less_lem d h =
          less_count (or_none (domain_in k)) 1 d c.domains K.holds.each h
          ∙ ap (λ (x : ℕ). get_or c.domains d 0 - x) (bit_of (eqb (or_none (domain_in k)) d) ∙ ap bit (domain_is v k reads d h))
