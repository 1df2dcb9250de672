-- One law for each way out of the crate's functions. Assumes nothing.
use Rattle.std.specs.Prelude.{Result, Ok, Err}
use Prim.Native.Nat.{ℕ, suc, ◌+◌, ◌*◌, ◌-◌, ◌≤◌, ◌<◌, min}
use mathlib.Core.Path.{◌≡◌, refl, sym, ap, ◌∙◌}
use mathlib.Core.List.{List}
use mathlib.Core.Bool.{Bool, true, false, not}
use native.Mathlib.Omega.{arith}
use native.Mathlib.Numerals.{add-one}
use lib.Dec.{eqb}
use lib.ListN.{length, take, length-take}
use lib.Seq.{sets}
use mir.Val.{Fits}
use mir.Syntax.{w32, w64}
use borrow.Author.Tests.{eq-eqb, ne_eqb, eqb-true}
use Rattle.text.specs.Place.{place, bytes_at, Lent, PartAt}
use Rattle.text.proofs.Bools.{by_bool, clash}
use Rattle.room.specs.Put.{Put}
use Rattle.room.proofs.Laws.{put_then, put_wider}
use Rattle.clock.specs.declared.Refusal.{Refusal}
use Rattle.clock.specs.declared.ReferenceClock.{ReferenceClock}
use Rattle.meaning.specs.ReferenceClock.{read_reference_clock}
use Rattle.meaning.specs.Meaning.{RefMeaning, ref_meaning}
use Rattle.equal.specs.Alike.{OneClock, hosts_alike}
use Rattle.equal.specs.Decides.{Decides}
use Rattle.equal.specs.Fingerprint.{fingerprint, host_print}
use Rattle.quads.specs.Quad.{quad, number_at}
use Rattle.streams.specs.Streams.{bit}
use Rattle.streams.specs.Sums.{first_from, first, sum}
use Rattle.streams.proofs.Lists.{bit_most}
use Rattle.streams.proofs.Sums.{below}
use Rattle.slots.specs.Slot.{slot_size, most_value, slot_bytes, streams_at, print_at, value_place, value_at, is_free, free_slot, taken_slots, stream_sum}
use Rattle.slots.specs.Find.{OfClock, SlotOf}
use Rattle.slots.specs.Private.Start.{Start}
use Rattle.slots.proofs.Slots.{one_record}

-- where a slot begins
pub starts_there : (i : ℕ) → i < 65536 → Start i (i * slot_size)
starts_there i h = record { is = refl; low = omega arith }

pub streams_there : (m : List ℕ) (i at r : ℕ) → Start i at → r ≡ number_at m at → r ≡ streams_at m i
unfolding streams_at
streams_there m i at r s e = e ∙ ap (number_at m) s.is

pub print_there : (m : List ℕ) (i at r : ℕ) → Start i at → r ≡ number_at m (at + 4) → r ≡ print_at m i
unfolding print_at
print_there m i at r s e = e ∙ ap (λ (n : ℕ). number_at m (n + 4)) s.is

-- `value_at`
pub value_there : (e r : Lent) (i at told len : ℕ) → Start i at → told ≡ number_at e.now (at + 8) → len ≡ min told most_value
    → PartAt e (place (at + 12) len) r → PartAt e (value_place e.now i) r
unfolding value_place
value_there e r i at told len s t l p =
    let q : len ≡ min (number_at e.now (i * slot_size + 8)) most_value =
    l ∙ ap (λ (n : ℕ). min n most_value) (t ∙ ap (λ (n : ℕ). number_at e.now (n + 8)) s.is) in
    let w : place (at + 12) len ≡ place (i * slot_size + 12) (min (number_at e.now (i * slot_size + 8)) most_value) = cc (q, s.is) in
    rw w at p

pub value_bytes : (e w : Lent) (i : ℕ) → PartAt e (value_place e.now i) w → w.now ≡ value_at e.now i
unfolding value_at
value_bytes e w i p = p.bytes

-- `is_of_clock`
module _ (m : List ℕ) (k : RefMeaning) (i : ℕ) where
  pub not_print : (n p : ℕ) → n ≡ print_at m i → p ≡ fingerprint host_print k → (n ≡ p → ⊥) → Decides false (OfClock m k i)
  not_print n p en ep x = record { right = λ e. clash (cc (e)); found = λ o. absurd (x (en ∙ o.print ∙ sym ep)) }

  pub not_taken : (n : ℕ) → n ≡ streams_at m i → n ≡ 0 → Decides false (OfClock m k i)
  not_taken n en z = record { right = λ e. clash (cc (e)); found = λ o. absurd (o.taken (sym en ∙ z)) }

module _ (e : Lent) (k : RefMeaning) (i : ℕ) (w : Lent) (ew : PartAt e (value_place e.now i) w) (x : Result ReferenceClock Refusal)
    (ex : x ≡ read_reference_clock w.now) where
  there : w.now ≡ value_at e.now i
  there = value_bytes e w i ew

  read_there : read_reference_clock (value_at e.now i) ≡ x
  read_there = ap read_reference_clock (sym there) ∙ sym ex

  pub not_read : (q : Refusal) → x ≡ Err q → Decides false (OfClock e.now k i)
  not_read q f = record { right = λ y. clash (cc (y)); found = λ o. clash (cc (read_there, f, o.reads)) }

  pub is_asked : (n p : ℕ) → n ≡ print_at e.now i → p ≡ fingerprint host_print k → n ≡ p → (t : ℕ) → t ≡ streams_at e.now i → (t ≡ 0 → ⊥)
      → (d : ReferenceClock) → x ≡ Ok d → (r : Bool) → Decides r (OneClock hosts_alike k (ref_meaning w.now d)) → Decides r (OfClock e.now k i)
  is_asked n p en ep np t et nt d f r a =
      record {
        right = λ y.
            record {
              taken = λ z. nt (et ∙ z);
              print = sym en ∙ np ∙ ep;
              clock = d;
              reads = read_there ∙ f;
              one = rw there at (a.right y);
            };
        found = λ o.
            let c : o.clock ≡ d = one_record o.clock d (sym o.reads ∙ read_there ∙ f) in
            a.found (rw (there, ← c) o.one);
      }

-- `find`: no slot before i is that of the clock
pub record NoneBefore (m : List ℕ) (k : RefMeaning) (n i : ℕ) : Type 0 where
  pub most : i ≤ n
  pub none_before : (j : ℕ) → j < i → OfClock m k j → ⊥

module _ (m : List ℕ) (k : RefMeaning) (n : ℕ) where
  pub find_start : NoneBefore m k n 0
  find_start = record { most = omega arith; none_before = λ j h. absurd (omega arith) }

  module _ (i : ℕ) (b : NoneBefore m k n i) where
    pub find_end : n ≤ i → SlotOf m k n i
    find_end h = record { most = b.most; there = λ g. absurd (omega arith); none_before = b.none_before }

    module _ (h : i < n) (r : Bool) (d : Decides r (OfClock m k i)) where
      pub find_hit : r ≡ true → SlotOf m k n i
      find_hit e = record { most = b.most; there = λ g. d.right e; none_before = b.none_before }

      pub find_turn : r ≡ false → NoneBefore m k n (i + 1)
      find_turn e =
          record {
            most = omega arith;
            none_before = λ j g o.
                by_bool (eqb j i)
                (λ t. clash (cc (e, d.found (rw (eqb-true j i t) at o))))
                (λ t. b.none_before j (below j i g t) o);
          }

-- the number of a loop's turns
pub record Looked (p : ℕ → Bool) (n i : ℕ) : Type 0 where
  pub within : i ≤ n
  pub left : first p n ≡ first_from p i (n - i)

-- `find_free`
module _ (m : List ℕ) (n : ℕ) where
  pub free_start : Looked (is_free m) n 0
  free_start = record { within = omega arith; left = ap (first_from (is_free m) 0) (omega arith) }

  module _ (i : ℕ) (k : Looked (is_free m) n i) where
    pub free_end : n ≤ i → i ≡ free_slot m n
    unfolding free_slot first_from
    free_end h = let z : n - i ≡ 0 = omega arith in sym (k.left ∙ ap (first_from (is_free m) i) z)

    one_more_lem : i < n → first_from (is_free m) i (n - i) ≡ first_from (is_free m) i (suc (n - (i + 1)))
    one_more_lem h = ap (first_from (is_free m) i) (omega arith)

    module _ (h : i < n) (r : ℕ) (q : r ≡ streams_at m i) where
      pub free_hit : r ≡ 0 → i ≡ free_slot m n
      unfolding free_slot first_from
      free_hit t = sym (k.left ∙ one_more_lem h ∙ simp (eq-eqb (streams_at m i) 0 (sym q ∙ t)))

      pub free_turn : (r ≡ 0 → ⊥) → Looked (is_free m) n (i + 1)
      unfolding first_from
      free_turn f =
          record {
            within = omega arith;
            left = k.left ∙ one_more_lem h ∙ simp (ne_eqb (streams_at m i) 0 (λ e. f (q ∙ e))) (rw add-one refl);
          }

-- `set_streams`, `set_print`, `set_slot`
pub streams_set : (m m' : List ℕ) (i at n r : ℕ) → Start i at → Put 4 m at (quad n) r m' → m' ≡ sets m (i * slot_size) (quad n)
streams_set m m' i at n r s p = p.bytes ∙ ap (λ (k : ℕ). sets m k (quad n)) s.is

pub print_set : (m m' : List ℕ) (i at n r : ℕ) → Start i at → Put 4 m (at + 4) (quad n) r m' → m' ≡ sets m (i * slot_size + 4) (quad n)
print_set m m' i at n r s p = p.bytes ∙ ap (λ (k : ℕ). sets m (k + 4) (quad n)) s.is

pub slot_put : (n p : ℕ) (v : List ℕ) {at second third fourth last : ℕ} {l x y z w : List ℕ} → length v ≤ most_value
    → Put 4 l at (quad n) second x → Put 4 x second (quad p) third y → Put 4 y third (quad (length v)) fourth z → Put (length v) z fourth v last w
    → Put slot_size l at (slot_bytes n p v) last w
unfolding slot_bytes
slot_put n p v h a b c d = put_wider (put_then (put_then (put_then a b) c) d) (omega arith)

pub part_short : (v w : Lent) → PartAt v (place 0 most_value) w → length w.now ≤ most_value
unfolding bytes_at
part_short v w p = let e : length w.now ≡ min most_value (length v.now) = ap length p.bytes ∙ length-take most_value v.now in omega arith

pub slot_set : (m m' : List ℕ) (v w : Lent) (i at p n r : ℕ) → Start i at → PartAt v (place 0 most_value) w → Put slot_size m at (slot_bytes n p w.now) r m'
    → m' ≡ sets m (i * slot_size) (slot_bytes n p (take most_value v.now))
unfolding bytes_at
slot_set m m' v w i at p n r s e q =
    q.bytes ∙ ap (λ (k : ℕ). sets m k (slot_bytes n p w.now)) s.is
    ∙ ap (λ (t : List ℕ). sets m (i * slot_size) (slot_bytes n p t)) e.bytes

-- `taken`
module _ (m : List ℕ) (i r : ℕ) (q : r ≡ streams_at m i) where
  pub taken_no : r ≡ 0 → 0 ≡ bit (not (is_free m i))
  taken_no e = simp (eq-eqb (streams_at m i) 0 (sym q ∙ e))

  pub taken_yes : (r ≡ 0 → ⊥) → 1 ≡ bit (not (is_free m i))
  taken_yes f = simp (ne_eqb (streams_at m i) 0 (λ e. f (q ∙ e)))

-- `count_taken`
pub record Taken (m : List ℕ) (used n i : ℕ) : Type 0 where
  pub within : i ≤ used
  pub so_far : n ≡ taken_slots m i
  pub most : n ≤ i

pub taken_start : (m : List ℕ) (used : ℕ) → Taken m used 0 0
unfolding taken_slots sum
taken_start m used = record { within = omega arith; so_far = refl; most = omega arith }

module _ (m : List ℕ) (used n i : ℕ) (k : Taken m used n i) where
  pub taken_end : used ≤ i → n ≡ taken_slots m used
  taken_end h = let e : i ≡ used = omega (arith, k.within) in k.so_far ∙ ap (taken_slots m) e

  module _ (h : i < used) (r : ℕ) (q : r ≡ bit (not (is_free m i))) where
    pub taken_fits : used < 65536 → Fits w32 (n + r)
    taken_fits b = record { fits = omega (arith, k.most, bit_most (not (is_free m i))) }

    one_more_slot : taken_slots m (i + 1) ≡ taken_slots m i + bit (not (is_free m i))
    unfolding taken_slots sum
    one_more_slot = rw add-one refl

    pub taken_turn : Taken m used (n + r) (i + 1)
    taken_turn =
        record {
          within = omega arith;
          so_far = omega (arith, k.so_far, one_more_slot);
          most = omega (arith, k.most, bit_most (not (is_free m i)));
        }

-- `sum_streams`
pub record Summed (m : List ℕ) (used n i : ℕ) : Type 0 where
  pub within : i ≤ used
  pub so_far : n ≡ stream_sum m i
  pub most : n ≤ i * 4294967296

pub summed_start : (m : List ℕ) (used : ℕ) → Summed m used 0 0
unfolding stream_sum sum
summed_start m used = record { within = omega arith; so_far = refl; most = omega arith }

module _ (m : List ℕ) (used n i : ℕ) (k : Summed m used n i) where
  pub summed_end : used ≤ i → n ≡ stream_sum m used
  summed_end h = let e : i ≡ used = omega (arith, k.within) in k.so_far ∙ ap (stream_sum m) e

  module _ (h : i < used) (r : ℕ) (q : r ≡ streams_at m i) (small : r < 4294967296) where
    pub summed_fits : used < 65536 → Fits w64 (n + r)
    summed_fits b = record { fits = omega (arith, k.most) }

    streams_more : stream_sum m (i + 1) ≡ stream_sum m i + streams_at m i
    unfolding stream_sum sum
    streams_more = rw add-one refl

    pub summed_turn : Summed m used (n + r) (i + 1)
    summed_turn = record { within = omega arith; so_far = omega (arith, k.so_far, streams_more, q); most = omega (arith, k.most) }

pub ruleset laws = (
  starts_there,
  streams_there,
  print_there,
  value_there,
  not_print,
  not_taken,
  not_read,
  is_asked,
  find_start,
  find_end,
  find_hit,
  find_turn,
  free_start,
  free_end,
  free_hit,
  free_turn,
  streams_set,
  print_set,
  slot_put,
  part_short,
  slot_set,
  taken_no,
  taken_yes,
  taken_start,
  taken_fits,
  taken_end,
  taken_turn,
  summed_start,
  summed_fits,
  summed_end,
  summed_turn,
)
