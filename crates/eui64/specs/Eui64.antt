-- An EUI-64 as text: exactly 23 bytes, cut at each "-"; from the left each segment must have 2 bytes, then be a number of base 16, where
-- "+1" is 1.
use Rattle.std.specs.Prelude.{ℕ, zero, suc, ◌+◌, ◌*◌, ◌/◌, ◌%◌, List, [], ◌∷◌, ◌++◌, cond, ◌&&◌, ltb, eqb, length, get_or, Result, Option, Some, None, Ok, Err}
use Rattle.text.specs.Place.{place}
use Rattle.number.specs.Hex.{hex_digit, hex_capital}
use Rattle.eui64.specs.declared.BrokenRule.{BrokenRule}
use Rattle.eui64.specs.declared.BrokenRule.TheVariants.{Length, SegmentLength, SegmentDigits}
use Rattle.eui64.specs.declared.Fault.{Fault}

abbrev pub refused : BrokenRule → ℕ → ℕ → Result ℕ Fault
refused broken at n = Err (record { rule = broken; place = place at n })

-- a byte more in front of the first segment
abbrev pub onto_first : ℕ → List (List ℕ) → List (List ℕ)
onto_first x [] = (x ∷ []) ∷ []
onto_first x (p ∷ ps) = (x ∷ p) ∷ ps

-- the segments of a text, cut at each b
unfoldable pub cut_at_each : ℕ → List ℕ → List (List ℕ)
cut_at_each b [] = [] ∷ []
cut_at_each b (x ∷ s) = cond (eqb x b) ([] ∷ cut_at_each b s) (onto_first x (cut_at_each b s))

-- the first digit of a segment, where "+" counts nothing
unfoldable pub high_digit : ℕ → ℕ
high_digit b = cond (eqb b 43) 0 (hex_digit b)

-- two bytes as a number of base 16
unfoldable pub segment_of : ℕ → ℕ → Option ℕ
segment_of a b =
    cond (ltb (high_digit a) 16 && ltb (hex_digit b) 16) (Some (high_digit a * 16 + hex_digit b)) None

abbrev pub with_byte : Option ℕ → (ℕ → Result ℕ Fault) → Result ℕ Fault → Result ℕ Fault
with_byte (Some x) go stop = go x
with_byte None go stop = stop

-- the segments ps, the first of them at the place `at`, behind segments that make the number `id`
unfoldable pub segments_of : ℕ → ℕ → List (List ℕ) → Result ℕ Fault
segments_of at id [] = Ok id
segments_of at id (p ∷ ps) =
    cond (eqb (length p) 2)
    (with_byte (segment_of (get_or p 0 0) (get_or p 1 0)) (λ x. segments_of (at + 3) (id * 256 + x) ps) (refused SegmentDigits at 2))
    (refused SegmentLength at (length p))

unfoldable pub eui64_of : List ℕ → Result ℕ Fault
eui64_of s = cond (eqb (length s) 23) (segments_of 0 0 (cut_at_each 45 s)) (refused Length 0 (length s))

-- a segment as it is written, two digits, the letters as capitals
abbrev pub segment_text : ℕ → List ℕ
segment_text b = hex_capital (b / 16) ∷ hex_capital (b % 16) ∷ []

-- the last k + 1 segments of a number, the highest first, with "-" between them
unfoldable pub segments_text : ℕ → ℕ → List ℕ
segments_text zero id = segment_text (id % 256)
segments_text (suc k) id = segments_text k (id / 256) ++ 45 ∷ segment_text (id % 256)

unfoldable pub eui64_text : ℕ → List ℕ
eui64_text id = segments_text 7 id
