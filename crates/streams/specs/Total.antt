-- The sum of a plain list: it grows by each call that is answered "counted", and shrinks by each that is answered "withdrawn". `proofs/Total.antt` proves it.
use Rattle.std.specs.Prelude.{ℕ, ◌+◌, ◌≡◌, length}
use Rattle.streams.specs.Rule.{Rule}
use Rattle.streams.specs.Limits.{Limits}
use Rattle.streams.specs.Streams.{Streams, number_of, refused_in}
use Rattle.streams.specs.Calls.{Call, answer, after, counted_by, withdrawn_by}

abbrev pub ListSum : Type 0
ListSum =
    (R : Rule) (L : Limits) (n : ℕ) (k : Call) (l : Streams)
    → length (after R L n k l) + withdrawn_by k (answer R L n k l) ≡ length l + counted_by k (answer R L n k l)

-- each stream has a clock or is that of a refused value
abbrev pub ListParts : Type 0
ListParts = (R : Rule) (l : Streams) → number_of R.accepted l + refused_in R l ≡ length l
