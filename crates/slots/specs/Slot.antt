-- A slot: how many streams its clock has, the clock's fingerprint and how long its value is, each a number of four bytes; then the value.
use Rattle.std.specs.Prelude.{ℕ, ◌+◌, ◌*◌, min, List, ◌++◌, Bool, not, eqb, length}
use Rattle.text.specs.Place.{place, bytes_at}
use Rattle.text.specs.declared.Place.{Place}
use Rattle.quads.specs.Quad.{quad, number_at}
use Rattle.streams.specs.Streams.{bit}
use Rattle.streams.specs.Sums.{first, sum}

-- how many bytes a slot has, and how many of them are for the value
abbrev pub slot_size : ℕ
slot_size = 1036

abbrev pub most_value : ℕ
most_value = 1024

-- the bytes of a slot with n streams of the value v
unfoldable pub slot_bytes : ℕ → ℕ → List ℕ → List ℕ
slot_bytes n print v = quad n ++ quad print ++ quad (length v) ++ v

-- what the slot i of the memory m says, whatever stands there
module _ (m : List ℕ) where
  unfoldable pub streams_at : ℕ → ℕ
  streams_at i = number_at m (i * slot_size)

  unfoldable pub print_at : ℕ → ℕ
  print_at i = number_at m (i * slot_size + 4)

  unfoldable pub value_place : ℕ → Place
  value_place i = place (i * slot_size + 12) (min (number_at m (i * slot_size + 8)) most_value)

  unfoldable pub value_at : ℕ → List ℕ
  value_at i = bytes_at (value_place i) m

  abbrev pub is_free : ℕ → Bool
  is_free i = eqb (streams_at i) 0

  -- the first of the first n that is free, or n where none is
  unfoldable pub free_slot : ℕ → ℕ
  free_slot n = first is_free n

  -- how many of the first n have streams, and how many streams they have
  unfoldable pub taken_slots : ℕ → ℕ
  taken_slots n = sum n (λ i. bit (not (is_free i)))

  unfoldable pub stream_sum : ℕ → ℕ
  stream_sum n = sum n streams_at
