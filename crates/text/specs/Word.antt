-- Texts compared with fixed words.
use Rattle.std.specs.Prelude.{ℕ, List, [], ◌∷◌, Bool, true, false, ◌&&◌, eqb, length, take}
use Prim.Native.Char.{code}
use Prim.Native.String.{String, [] as []ˢ, ◌∷◌ as ◌∷ˢ◌}

-- a fixed word as its bytes: word "ntp=" is 110 ∷ 116 ∷ 112 ∷ 61 ∷ []
abbrev pub word : String → List ℕ
word []ˢ = []
word (c ∷ˢ w) = code c ∷ word w

-- whether two texts are the same
unfoldable pub same : List ℕ → List ℕ → Bool
same [] [] = true
same [] (y ∷ t) = false
same (x ∷ s) [] = false
same (x ∷ s) (y ∷ t) = eqb x y && same s t

-- whether the text s begins with w
abbrev pub starts : List ℕ → List ℕ → Bool
starts w s = same (take (length w) s) w

-- whether b is the last byte of a text
unfoldable pub ends_in : ℕ → List ℕ → Bool
ends_in b [] = false
ends_in b (x ∷ []) = eqb x b
ends_in b (x ∷ y ∷ s) = ends_in b (y ∷ s)
