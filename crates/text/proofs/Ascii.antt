-- Texts of bytes below 128. Assumes nothing.
use Prim.Native.Nat.{ℕ, ◌<◌}
use mathlib.Core.Path.{◌≡◌}
use mathlib.Core.List.{List, [], ◌∷◌, ◌++◌}
use mathlib.Core.Bool.{Bool, true, ◌&&◌}
use lib.Dec.{ltb}
use borrow.Author.Tests.{lt-ltb}
use Rattle.text.proofs.Bools.{and_left, and_right, both}

abbrev pub ascii : List ℕ → Bool
ascii [] = true
ascii (b ∷ s) = ltb b 128 && ascii s

pub ascii_cons : (b : ℕ) (s : List ℕ) → b < 128 → ascii s ≡ true → ascii (b ∷ s) ≡ true
ascii_cons b s h k = both (lt-ltb b 128 h) k

pub ascii_append : (s t : List ℕ) → ascii s ≡ true → ascii t ≡ true → ascii (s ++ t) ≡ true
ascii_append [] t h k = k
ascii_append (b ∷ s) t h k =
    both (and_left (ltb b 128) (ascii s) h) (ascii_append s t (and_right (ltb b 128) (ascii s) h) k)
