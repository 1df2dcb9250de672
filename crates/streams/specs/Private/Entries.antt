-- What the proofs ask of a book.
use Rattle.std.specs.Prelude.{ℕ, Bool, not, ◌&&◌}
use Rattle.streams.specs.Rule.{Value, Rule}
use Rattle.streams.specs.Streams.{bit}
use Rattle.streams.specs.Sums.{sum}
use Rattle.streams.specs.Book.{Book, is_free}

-- whether an entry is that of v's clock
abbrev pub names : Rule → Book → Value → ℕ → Bool
names R b v i = not (is_free b i) && R.same v (b.value i)

-- the clock counts, added up
abbrev pub clock_sum : Book → ℕ
clock_sum b = sum b.used b.streams

-- the entries that are not free
abbrev pub live : Book → ℕ
live b = sum b.used (λ i. bit (not (is_free b i)))
