-- There is one slot of a clock, or none, and no second answer. Assumes nothing.
use Rattle.std.specs.Prelude.{Result, Ok, Err}
use Prim.Native.Nat.{ℕ}
use mathlib.Core.Path.{◌≡◌, refl, sym, ◌∙◌}
use mathlib.Core.List.{List}
use mathlib.Core.Bool.{Bool, true, false, not, ◌&&◌}
use native.Mathlib.Omega.{arith}
use lib.Dec.{eqb, ltb}
use borrow.Author.Tests.{eq-eqb, ne_eqb, eqb-true, eqb-false, ltb-true, ltb-false, not-true}
use Rattle.text.proofs.Bools.{by_bool, clash, and_left, and_right}
use Rattle.clock.specs.declared.ReferenceClock.{ReferenceClock}
use Rattle.meaning.specs.ReferenceClock.{read_reference_clock}
use Rattle.meaning.specs.Meaning.{RefMeaning, ref_meaning}
use Rattle.equal.specs.Alike.{hosts_alike}
use Rattle.equal.specs.Fingerprint.{fingerprint, host_print}
use Rattle.equal.specs.Private.Test.{alike}
use Rattle.equal.proofs.Equality.{alike_decides, classes}
use Rattle.streams.specs.Sums.{first}
use Rattle.streams.proofs.Sums.{first_tells}
use Rattle.slots.specs.Slot.{streams_at, print_at, value_at, is_free}
use Rattle.slots.specs.Find.{OfClock, SlotFor, SlotThere, SlotSettled}
use Rattle.clock.specs.declared.Refusal.{Refusal}

-- one value is read as one record
pub one_record : (c d : ReferenceClock) → ◌≡◌ {A = Result ReferenceClock Refusal} (Ok c) (Ok d) → c ≡ d
one_record c d e = cc (e)

pub slot_settled : SlotSettled
slot_settled m k n i j a b =
    by_bool (ltb i j)
    (λ t. let h = ltb-true i j t in absurd (b.none_before i h (a.there (omega (arith, b.most)))))
    (λ t.
    let g = ltb-false i j t in
    by_bool (ltb j i)
    (λ s. let h = ltb-true j i s in absurd (a.none_before j h (b.there (omega (arith, a.most)))))
    (λ s. let h = ltb-false j i s in omega arith))

-- as a test
module _ (m : List ℕ) (k : RefMeaning) where
  abbrev reads : Result ReferenceClock Refusal → ℕ → Bool
  reads (Ok d) i = alike hosts_alike k (ref_meaning (value_at m i) d)
  reads (Err r) i = false

  abbrev test : ℕ → Bool
  test i = not (is_free m i) && (eqb (print_at m i) (fingerprint host_print k) && reads (read_reference_clock (value_at m i)) i)

  test_right : (i : ℕ) → test i ≡ true → OfClock m k i
  test_right i e =
      let p = and_right (not (is_free m i)) _ e in
      let live = not-true (is_free m i) (and_left (not (is_free m i)) _ e) in
      go (read_reference_clock (value_at m i)) refl live
      (eqb-true (print_at m i) (fingerprint host_print k) (and_left (eqb (print_at m i) (fingerprint host_print k)) _ p))
      (and_right (eqb (print_at m i) (fingerprint host_print k)) _ p)
    where
      go : (x : Result ReferenceClock Refusal) → read_reference_clock (value_at m i) ≡ x → is_free m i ≡ false → print_at m i ≡ fingerprint host_print k
          → reads x i ≡ true → OfClock m k i
      go (Err r) ex f q t = clash (cc)
      go (Ok d) ex f q t =
          record {
            taken = λ z. eqb-false (streams_at m i) 0 f z;
            print = q;
            clock = d;
            reads = ex;
            one = (alike_decides hosts_alike classes.of_hosts k (ref_meaning (value_at m i) d)).right t;
          }

  test_found : (i : ℕ) → OfClock m k i → test i ≡ true
  test_found i o =
      let s = (alike_decides hosts_alike classes.of_hosts k (ref_meaning (value_at m i) o.clock)).found o.one in
      simp (ne_eqb (streams_at m i) 0 o.taken, eq-eqb (print_at m i) (fingerprint host_print k) o.print, o.reads) s

pub slot_there : SlotThere
slot_there m k n =
    let f = first_tells (test m k) n in (
      first (test m k) n,
      record {
        most = f.most;
        there = λ h. test_right m k (first (test m k) n) (f.holds h);
        none_before = λ j h o. clash (cc (f.none j h, test_found m k j o));
      },
    )

-- and so of every value
pub slot_for : (m v : List ℕ) (n : ℕ) → (i : ℕ) × SlotFor m v n i
slot_for m v n = go (read_reference_clock v) refl
  where
    go : (x : Result ReferenceClock Refusal) → read_reference_clock v ≡ x → (i : ℕ) × SlotFor m v n i
    go (Err r) e = (n, record { named = λ k f. clash (cc (e, f)) })
    go (Ok c) e =
        let s = slot_there m (ref_meaning v c) n in
        (s.0, record { named = λ k f. let q : c ≡ k = one_record c k (sym e ∙ f) in rw (← q) s.1 })
