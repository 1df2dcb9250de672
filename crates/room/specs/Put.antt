-- A text put into lent room.
use Rattle.std.specs.Prelude.{◌≡◌, ℕ, ◌+◌, ◌-◌, ◌^◌, ◌≤◌, min, List, length}
use Rattle.std.proofs.lemmas.List.Edits.{sets}

-- the last place that a number of 64 bits tells
abbrev pub last_place : ℕ
last_place = 2 ^ 64 - 1

-- the place behind n bytes that are put from the place `at` on: counting stops at the last place
abbrev pub behind : ℕ → ℕ → ℕ
behind at n = min (at + n) last_place

-- A text of at most `most` bytes, put from the place `at` on: the next place is the one behind it, and the room then is the room with each
-- byte of the text stored at its place. A byte whose place lies behind the room's end is counted and not stored. No room has a byte at the last
-- place, so where counting stops nothing is stored.
pub record Put (most : ℕ) (room : List ℕ) (at : ℕ) (text : List ℕ) (next : ℕ) (after : List ℕ) : Type 0 where
  pub place : next ≡ behind at (length text)
  pub bound : length text ≤ most
  pub bytes : after ≡ sets room at text
  pub reach : length room ≤ last_place

-- no second answer meets it: one place and one room. `proofs/Settled.antt` proves this
abbrev pub PutSettled : Type 0
PutSettled =
    (most : ℕ) (room : List ℕ) (at : ℕ) (text : List ℕ) (next other : ℕ) (after later : List ℕ)
    → Put most room at text next after → Put most room at text other later → (next ≡ other) × (after ≡ later)
