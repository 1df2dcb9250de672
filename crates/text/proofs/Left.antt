-- What is left of a text from a place on. Assumes nothing.
use Prim.Native.Nat.{ℕ, zero, suc, ◌+◌, ◌-◌, ◌≤◌, ◌<◌}
use mathlib.Core.Path.{◌≡◌}
use mathlib.Core.Bool.{Bool, false, ◌||◌}
use mathlib.Core.List.{List, [], ◌∷◌}
use native.Mathlib.Omega.{arith}
use native.Mathlib.Numerals.{add-one}
use lib.ListN.{length, get_or, drop, take, length-drop, drop_of_length-le}
use lib.Seq.{drop-cons, take_all}
use Rattle.text.proofs.Bools.{neither}

-- the part from k to the end, as a call is lent it
abbrev pub rest : ℕ → List ℕ → List ℕ
rest k s = take (length s - k) (drop k s)

pub rest_is : (k : ℕ) (s : List ℕ) → rest k s ≡ drop k s
rest_is k s = take_all (length s - k) (drop k s) (simp length-drop (omega arith))

-- the byte at i, and what is left behind it
pub next_byte : (s : List ℕ) (i : ℕ) → i < length s → drop i s ≡ get_or s i 0 ∷ drop (i + 1) s
next_byte s i h = rw add-one (drop-cons s i 0 h)

pub none_left : (s : List ℕ) (i : ℕ) → length s ≤ i → drop i s ≡ []
none_left s i h = drop_of_length-le s h

-- A count over s, of which i are passed: the rest of it is the count over what is left.
pub record Passed (count : List ℕ → ℕ) (s : List ℕ) (i : ℕ) : Type 0 where
  pub within : i ≤ length s
  pub so_far : count s ≡ i + count (drop i s)

pub passed_none : (count : List ℕ → ℕ) (s : List ℕ) → Passed count s 0
passed_none count s = record { within = omega arith; so_far = omega arith }

module _ {count : List ℕ → ℕ} {s : List ℕ} {i : ℕ} (p : Passed count s i) where
  pub passed_all : count (drop i s) ≡ 0 → i ≡ count s
  passed_all e = omega (arith, p.so_far)

  pub passed_more : (n : ℕ) → i + n ≤ length s → count (drop i s) ≡ n + count (drop (i + n) s) → Passed count s (i + n)
  passed_more n h e = record { within = h; so_far = omega (arith, p.so_far) }

-- whether one of the bytes from i to i + n passes a test, as one `|` of all the tests
abbrev pub any_of : (ℕ → Bool) → List ℕ → ℕ → ℕ → Bool
any_of test s i zero = test (get_or s i 0)
any_of test s i (suc n) = any_of test s i n || test (get_or s (i + suc n) 0)

-- where none does, all of them are passed if each of them is
module _ (test : ℕ → Bool) {count : List ℕ → ℕ} {s : List ℕ} (next : (k : ℕ) → Passed count s k → k < length s → test (get_or s k 0) ≡ false → Passed count s (k + 1)) where
  pub passed_run : {i : ℕ} → Passed count s i → (n : ℕ) → i + n < length s → any_of test s i n ≡ false → Passed count s (i + suc n)
  passed_run {i} p zero h e = next i p (omega arith) e
  passed_run {i} p (suc n) h e =
      let k : i + suc n + 1 ≡ i + suc (suc n) = omega arith in
      let (f, l) = neither (any_of test s i n) (test (get_or s (i + suc n) 0)) e in
      rw k at (next (i + suc n) (passed_run p n (omega arith) f) h l)
