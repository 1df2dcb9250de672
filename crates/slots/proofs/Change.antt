-- What a slot that was changed says, and that the others say what they said. Assumes nothing.
use Prim.Native.Nat.{ℕ, ◌+◌, ◌*◌, ◌≤◌, ◌<◌, min}
use mathlib.Core.Path.{◌≡◌, refl, sym, ap, ◌∙◌}
use mathlib.Core.List.{List, [], ◌++◌, append-nil}
use native.Mathlib.Omega.{arith}
use lib.Dec.{ltb}
use lib.ListN.{length, length-append}
use lib.Seq.{sets, take-length}
use borrow.Author.Tests.{ltb-true, ltb-false}
use Rattle.text.specs.Place.{place, bytes_at}
use Rattle.text.proofs.Bools.{by_bool}
use Rattle.quads.specs.Quad.{quad, quad_of, number_at}
use Rattle.quads.proofs.Windows.{quad_length, stored_before, stored_behind, stored_inside, number_before, number_behind_it, number_inside}
use Rattle.slots.specs.Slot.{slot_size, most_value, slot_bytes, streams_at, print_at, value_place, value_at}

-- the text t at a place lies in the slot i
pub record Inside (i at : ℕ) (t : List ℕ) : Type 0 where
  pub low : i * slot_size ≤ at
  pub high : at + length t ≤ i * slot_size + slot_size

-- it is stored there: the bytes of another slot are what they were
module _ (m : List ℕ) (i at : ℕ) (t : List ℕ) (w : Inside i at t) (j : ℕ) (x : j ≡ i → ⊥) where
  other_bytes : (p n : ℕ) → j * slot_size ≤ p → p + n ≤ j * slot_size + slot_size → bytes_at (place p n) (sets m at t) ≡ bytes_at (place p n) m
  other_bytes p n low high =
      by_bool (ltb j i)
      (λ y. let h = ltb-true j i y in stored_before p n at m t (omega (arith, w.low)))
      (λ y.
      let h = ltb-false j i y in
      let less : i < j = by_bool (ltb i j) (λ q. ltb-true i j q) (λ q. absurd (x (let r = ltb-false i j q in omega arith))) in
      stored_behind p n at m t (omega (arith, w.high)))

  other_number : (p : ℕ) → j * slot_size ≤ p → p + 4 ≤ j * slot_size + slot_size → number_at (sets m at t) p ≡ number_at m p
  unfolding number_at
  other_number p low high = ap quad_of (other_bytes p 4 low high)

  pub other_streams : streams_at (sets m at t) j ≡ streams_at m j
  unfolding streams_at
  other_streams = other_number (j * slot_size) (omega arith) (omega arith)

  pub other_print : print_at (sets m at t) j ≡ print_at m j
  unfolding print_at
  other_print = other_number (j * slot_size + 4) (omega arith) (omega arith)

  pub other_value : value_at (sets m at t) j ≡ value_at m j
  unfolding value_at value_place
  other_value =
      ap (λ (n : ℕ). bytes_at (place (j * slot_size + 12) (min n most_value)) (sets m at t))
      (other_number (j * slot_size + 8) (omega arith) (omega arith))
      ∙ other_bytes (j * slot_size + 12) (min (number_at m (j * slot_size + 8)) most_value) (omega arith) (omega arith)

-- a number that is stored stands there
number_stored : (m : List ℕ) (at n : ℕ) → at + 4 ≤ length m → n < 4294967296 → number_at (sets m at (quad n)) at ≡ n
number_stored m at n inside small =
    let z : at ≡ at + 0 = omega arith in
    let l : length (quad n ++ []) ≡ 4 = ap length (append-nil (quad n)) ∙ quad_length n in
    ap (λ (t : List ℕ). number_at (sets m at t) at) (sym (append-nil (quad n)))
    ∙ ap (number_at (sets m at (quad n ++ []))) z
    ∙ number_inside 0 n at m [] [] (omega (arith, l)) refl small

-- one of the first two numbers of the slot i is stored: the value is what it was
module _ (m : List ℕ) (i at n : ℕ) (low : at + 4 ≤ i * slot_size + 8) where
  quad_before : (p : ℕ) → i * slot_size + 8 ≤ p → at + length (quad n) ≤ p
  quad_before p h = omega (arith, quad_length n)

  number_value : value_at (sets m at (quad n)) i ≡ value_at m i
  unfolding value_at value_place
  number_value =
      ap (λ (k : ℕ). bytes_at (place (i * slot_size + 12) (min k most_value)) (sets m at (quad n)))
      (number_behind_it (i * slot_size + 8) at m (quad n) (quad_before (i * slot_size + 8) (omega arith)))
      ∙ stored_behind (i * slot_size + 12) (min (number_at m (i * slot_size + 8)) most_value) at m (quad n) (quad_before (i * slot_size + 12) (omega arith))

-- the slot i gets another number of streams
module _ (m : List ℕ) (i n : ℕ) where
  pub recounts_inside : Inside i (i * slot_size) (quad n)
  recounts_inside = record { low = omega arith; high = omega (arith, quad_length n) }

  pub recounted_streams : i * slot_size + slot_size ≤ length m → n < 4294967296 → streams_at (sets m (i * slot_size) (quad n)) i ≡ n
  unfolding streams_at
  recounted_streams inside small = number_stored m (i * slot_size) n (omega arith) small

  pub recounted_print : print_at (sets m (i * slot_size) (quad n)) i ≡ print_at m i
  unfolding print_at
  recounted_print = number_behind_it (i * slot_size + 4) (i * slot_size) m (quad n) (omega (arith, quad_length n))

  pub recounted_value : value_at (sets m (i * slot_size) (quad n)) i ≡ value_at m i
  recounted_value = number_value m i (i * slot_size) n (omega arith)

-- or another fingerprint
module _ (m : List ℕ) (i p : ℕ) where
  pub reprints_inside : Inside i (i * slot_size + 4) (quad p)
  reprints_inside = record { low = omega arith; high = omega (arith, quad_length p) }

  pub reprinted_streams : streams_at (sets m (i * slot_size + 4) (quad p)) i ≡ streams_at m i
  unfolding streams_at
  reprinted_streams = number_before (i * slot_size) (i * slot_size + 4) m (quad p) (omega arith)

  pub reprinted_print : i * slot_size + slot_size ≤ length m → p < 4294967296 → print_at (sets m (i * slot_size + 4) (quad p)) i ≡ p
  unfolding print_at
  reprinted_print inside small = number_stored m (i * slot_size + 4) p (omega arith) small

  pub reprinted_value : value_at (sets m (i * slot_size + 4) (quad p)) i ≡ value_at m i
  reprinted_value = number_value m i (i * slot_size + 4) p (omega arith)

-- the slot i becomes that of the value v
module _ (m : List ℕ) (i n p : ℕ) (v : List ℕ) (inside : i * slot_size + slot_size ≤ length m) (short : length v ≤ most_value) where
  -- the bytes of a slot, with each number apart
  bytes_first : slot_bytes n p v ≡ [] ++ (quad n ++ (quad p ++ (quad (length v) ++ v)))
  unfolding slot_bytes quad
  bytes_first = refl

  bytes_second : slot_bytes n p v ≡ quad n ++ (quad p ++ (quad (length v) ++ v))
  unfolding slot_bytes quad
  bytes_second = refl

  bytes_third : slot_bytes n p v ≡ (quad n ++ quad p) ++ (quad (length v) ++ v)
  unfolding slot_bytes quad
  bytes_third = refl

  bytes_length : length (slot_bytes n p v) ≡ 12 + length v
  unfolding slot_bytes quad
  bytes_length = omega arith

  abbrev stored : List ℕ
  stored = sets m (i * slot_size) (slot_bytes n p v)

  pub renews_inside : Inside i (i * slot_size) (slot_bytes n p v)
  renews_inside = record { low = omega arith; high = omega (arith, bytes_length) }

  within : (t : List ℕ) → slot_bytes n p v ≡ t → i * slot_size + length t ≤ length m
  within t e = omega (arith, sym (ap length e), bytes_length)

  pub new_streams : n < 4294967296 → streams_at stored i ≡ n
  unfolding streams_at
  new_streams small =
      let z : i * slot_size ≡ i * slot_size + 0 = omega arith in
      ap (λ (t : List ℕ). number_at (sets m (i * slot_size) t) (i * slot_size)) bytes_first
      ∙ ap (number_at (sets m (i * slot_size) ([] ++ (quad n ++ (quad p ++ (quad (length v) ++ v)))))) z
      ∙ number_inside 0 n (i * slot_size) m [] (quad p ++ (quad (length v) ++ v)) (within _ bytes_first) refl small

  pub new_print : p < 4294967296 → print_at stored i ≡ p
  unfolding print_at
  new_print small =
      ap (λ (t : List ℕ). number_at (sets m (i * slot_size) t) (i * slot_size + 4)) bytes_second
      ∙ number_inside 4 p (i * slot_size) m (quad n) (quad (length v) ++ v) (within _ bytes_second) (quad_length n) small

  new_length : number_at stored (i * slot_size + 8) ≡ length v
  new_length =
      ap (λ (t : List ℕ). number_at (sets m (i * slot_size) t) (i * slot_size + 8)) bytes_third
      ∙ number_inside 8 (length v) (i * slot_size) m (quad n ++ quad p) v (within _ bytes_third)
      (length-append (quad n) (quad p) ∙ two (quad_length n) (quad_length p)) (omega arith)
    where
      two : {a b : ℕ} → a ≡ 4 → b ≡ 4 → a + b ≡ 8
      two e f = omega arith

  bytes_last : bytes_at (place 12 (length v)) (slot_bytes n p v) ≡ v
  unfolding bytes_at slot_bytes quad
  bytes_last = take-length v

  pub new_value : value_at stored i ≡ v
  unfolding value_at value_place
  new_value =
      let l : min (number_at stored (i * slot_size + 8)) most_value ≡ length v = omega (arith, new_length) in
      ap (λ (k : ℕ). bytes_at (place (i * slot_size + 12) k) stored) l
      ∙ stored_inside 12 (length v) (i * slot_size) m (slot_bytes n p v) (omega (arith, bytes_length)) (omega (arith, bytes_length))
      ∙ bytes_last
