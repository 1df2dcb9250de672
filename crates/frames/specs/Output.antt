-- What becomes of the bytes that are held.
use Rattle.std.specs.Prelude.{◌≡◌, ℕ, ◌<◌, ◌≤◌, List, [], ◌++◌, length, Option}
use Rattle.std.specs.Io.KnownBytes.{Appends}

-- some of their front, or nothing, is printed, and the rest is still held
abbrev pub PrintsFront : Option (List ℕ) → Option (List ℕ) → List ℕ → List ℕ → Type 0
PrintsFront old new held left = (text : List ℕ) × Appends old new text × (text ++ left ≡ held)

-- what is little is held still and nothing is printed, and of what is much all is printed
abbrev pub PrintsFrom : ℕ → Option (List ℕ) → Option (List ℕ) → List ℕ → List ℕ → Type 0
PrintsFrom much old new held left =
    (length held < much → (left ≡ held) × Appends old new []) × (much ≤ length held → (left ≡ []) × Appends old new held)
