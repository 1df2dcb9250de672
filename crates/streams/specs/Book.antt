-- The book of a census: entries, each a value and how many streams its clock has, and the other counts. It is what a census keeps in place of a list. A
-- book stands for a list where both tell the same, whatever is asked of clocks.
use Rattle.std.specs.Prelude.{ℕ, ◌≤◌, ◌<◌, ◌≡◌, Bool, true, false, cond, eqb, length}
use Rattle.streams.specs.Rule.{Value, Rule}
use Rattle.streams.specs.Streams.{Streams, number_of, refused_in, in_domain}
use Rattle.streams.specs.Sums.{sum}

pub record Book : Type 0 where
  pub used : ℕ
  pub value : ℕ → Value
  pub streams : ℕ → ℕ
  pub refused : ℕ
  pub total : ℕ
  pub domain : ℕ → ℕ

-- an entry without streams is free
abbrev pub is_free : Book → ℕ → Bool
is_free b i = eqb (b.streams i) 0

-- the sum of the streams of the entries that p holds of
abbrev pub tallied : Book → (Value → Bool) → ℕ
tallied b p = sum b.used (λ i. cond (p (b.value i)) (b.streams i) 0)

-- p does not tell apart values of one clock
abbrev pub Respects : Rule → (Value → Bool) → Type 0
Respects R p = (v w : Value) → R.same v w ≡ true → p v ≡ p w

-- a book stands for a list of streams, but that only of its first n entries it is known that no two are of one clock
pub record StandsTo (n : ℕ) (R : Rule) (most : ℕ) (b : Book) (l : Streams) : Type 0 where
  -- whatever is asked of clocks, as many entries' streams as streams
  pub tallies : (p : Value → Bool) → Respects R p → ((v : Value) → p v ≡ true → R.accepted v ≡ true) → tallied b p ≡ number_of p l
  pub refused : b.refused ≡ refused_in R l
  pub total : b.total ≡ length l
  pub domains : (d : ℕ) → d < 128 → b.domain d ≡ in_domain R d l
  -- an entry with streams has the value of a clock, and no two of the first n have that of one clock
  pub accepted : (i : ℕ) → i < b.used → is_free b i ≡ false → R.accepted (b.value i) ≡ true
  pub apart : (i j : ℕ) → i < n → j < n → is_free b i ≡ false → is_free b j ≡ false → R.same (b.value i) (b.value j) ≡ true → i ≡ j
  pub within : b.used ≤ most

-- and of all its entries
abbrev pub Stands : Rule → ℕ → Book → Streams → Type 0
Stands R most b l = StandsTo b.used R most b l
