-- What is left of an input where no frame comes, or none that is whole.
use Rattle.std.specs.Prelude.{ℕ, ◌<◌, List, [], length, take, ⊤, Option}
use Rattle.std.specs.Io.KnownBytes.{Consumes, IsAtEnd}
use Rattle.console.specs.Moved.{ConsumesFront}
use Rattle.frames.specs.declared.Stop.{Stop}
use Rattle.frames.specs.declared.Stop.TheVariants.{End, Cut, Broken}

-- within a frame: the input has ended, or could not be read
abbrev pub EndsWithin : Option (List ℕ) → Stop → Type 0
EndsWithin new End = ⊥
EndsWithin new Cut = IsAtEnd new
EndsWithin new (Broken e) = ⊤

-- the same, of a buffer: the input ends before the buffer is full, or a read failed
abbrev pub StopsWithin : Option (List ℕ) → Option (List ℕ) → List ℕ → Stop → Type 0
StopsWithin old new buf End = ⊥
StopsWithin old new buf Cut = (n : ℕ) × (n < length buf) × Consumes old new (take n buf) × IsAtEnd new
StopsWithin old new buf (Broken e) = ConsumesFront old new buf

-- before it: the input has ended where not one byte came
abbrev pub Stops : Option (List ℕ) → Option (List ℕ) → List ℕ → Stop → Type 0
Stops old new buf End = Consumes old new [] × IsAtEnd new
Stops old new buf Cut = (n : ℕ) × (0 < n) × (n < length buf) × Consumes old new (take n buf) × IsAtEnd new
Stops old new buf (Broken e) = ConsumesFront old new buf
