-- A part of a value, by its place: the bytes there, and the memory that they lie in.
use Rattle.std.specs.Prelude.{ℕ, ◌+◌, min, ◌≡◌, List, length, take, drop}
use Rattle.std.specs.Borrow.{Bor}
use Rattle.text.specs.declared.Place.{Place}

-- the n bytes from at on
abbrev pub place : ℕ → ℕ → Place
place at n = record { start = at; len = n }

-- the bytes at a place of s: those that s has
unfoldable pub bytes_at : Place → List ℕ → List ℕ
bytes_at p s = take p.len (drop p.start s)

-- a lent slice of bytes: where it lies, and what it holds
abbrev pub Lent : Type 0
Lent = Bor (List ℕ)

-- r is the part of s at the place p: the same memory, from that place on, and the bytes there
pub record PartAt (s : Lent) (p : Place) (r : Lent) : Type 0 where
  pub block : r.ref_ptr.0 ≡ s.ref_ptr.0
  pub start : r.ref_ptr.1 ≡ s.ref_ptr.1 + min p.start (length s.now)
  pub bytes : r.now ≡ bytes_at p s.now

-- one part: the same block, the same start in it, and the same bytes. What a program cannot see is left open: the ghost name, under which the proofs
-- follow the bytes behind a slice
pub record OnePart (q r : Lent) : Type 0 where
  pub ptr : q.ref_ptr ≡ r.ref_ptr
  pub bytes : q.now ≡ r.now

-- so much is settled by a place: two answers at it are one part. `proofs/Parts.antt` proves it
abbrev pub PartSettled : Type 0
PartSettled = (s : Lent) (p : Place) (q r : Lent) → PartAt s p q → PartAt s p r → OnePart q r
