-- What the definitions of this crate say of some texts.
use Rattle.std.specs.Prelude.{refl, [], ◌∷◌, true, false}
use Rattle.text.specs.Example.{◌gives◌, Each}
use Rattle.text.specs.Find.{before, before_pair, through_last}
use Rattle.text.specs.Word.{word, same, starts, ends_in}
use Rattle.text.specs.Place.{place, bytes_at}

-- the first "=" of a text
first_byte : Each (before 61) (
    word "" gives 0 ∷ word "=" gives 0 ∷ word "ntp=" gives 3 ∷ word "a=b=c" gives 1 ∷ word "none" gives 4 ∷ [])
unfolding before
first_byte = refl

-- the last ":"
last_byte : Each (through_last 58) (
    word "" gives 0 ∷ word ":" gives 1 ∷ word "::1:8080" gives 4 ∷ word "host:" gives 5 ∷ word ":80" gives 1 ∷ word "none" gives 0 ∷ [])
unfolding through_last
last_byte = refl

-- the first "]:"
first_pair : Each (before_pair 93 58) (
    word "" gives 0 ∷ word "]" gives 1 ∷ word "]:" gives 0 ∷ word "::1]:80" gives 3 ∷ word "]]:]:" gives 1 ∷ word ":]" gives 2 ∷ [])
unfolding before_pair
first_pair = refl

whole_word : Each (same (word "gps")) (
    word "gps" gives true ∷ word "gp" gives false ∷ word "gpss" gives false ∷ word "GPS" gives false ∷ word "" gives false ∷ [])
unfolding same
whole_word = refl

prefix : Each (starts (word "ntp=")) (
    word "ntp=" gives true ∷ word "ntp=host" gives true ∷ word "ntp" gives false ∷ word "ptp=host" gives false ∷ word "" gives false ∷ [])
unfolding same
prefix = refl

-- "]" at the end
last_bracket : Each (ends_in 93) (word "" gives false ∷ word "]" gives true ∷ word "::1]" gives true ∷ word "]:" gives false ∷ [])
unfolding ends_in
last_bracket = refl

-- the bytes of a place that lies inside "ntp=h", reaches over its end, starts at it, or lies behind it
parts : Each (λ p. bytes_at p (word "ntp=h")) (
    place 0 3 gives word "ntp" ∷ place 4 1 gives word "h" ∷ place 4 9 gives word "h" ∷ place 5 0 gives word "" ∷ place 9 1 gives word "" ∷ [])
unfolding bytes_at
parts = refl
