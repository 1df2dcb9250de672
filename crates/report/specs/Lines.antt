-- The lines of a text: LF ends a line, one CR before it is dropped, and a last line without LF counts if it isn't empty.
use Rattle.std.specs.Prelude.{ℕ, ◌-◌, List, [], ◌∷◌, ◌++◌, cond, eqb, length, take}
use Rattle.text.specs.Word.{ends_in}

-- a line that LF ended, without the one CR before it
unfoldable pub without_cr : List ℕ → List ℕ
without_cr l = cond (ends_in 13 l) (take (length l - 1) l) l

-- the lines that an LF of the text s ends; `begun` is what stands of the first of them before s
unfoldable pub ended_from : List ℕ → List ℕ → List (List ℕ)
ended_from begun [] = []
ended_from begun (b ∷ s) = cond (eqb b 10) (without_cr begun ∷ ended_from [] s) (ended_from (begun ++ b ∷ []) s)

-- what is open behind the last LF
unfoldable pub open_from : List ℕ → List ℕ → List ℕ
open_from begun [] = begun
open_from begun (b ∷ s) = cond (eqb b 10) (open_from [] s) (open_from (begun ++ b ∷ []) s)

-- the last line, which no LF ends: none where it is empty
unfoldable pub last_line : List ℕ → List (List ℕ)
last_line [] = []
last_line (b ∷ l) = (b ∷ l) ∷ []

unfoldable pub lines_of : List ℕ → List (List ℕ)
lines_of s = ended_from [] s ++ last_line (open_from [] s)
