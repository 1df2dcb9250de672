-- What is left in a room where "xyz" is printed: at its front where it fits, else nothing. And which lines are plain.
use Rattle.std.specs.Prelude.{refl, [], ◌∷◌, true, false}
use Rattle.text.specs.Word.{word, same}
use Rattle.text.specs.Example.{◌gives◌, Each}
use Rattle.briefreply.specs.Gives.{with_front}
use Rattle.briefreply.specs.Plain.{plain}

printed : Each (λ room. with_front (word "xyz") room) (
    word "abcdef" gives word "xyzdef" ∷ word "abc" gives word "xyz" ∷ word "ab" gives word "ab" ∷ word "" gives word "" ∷ [])
unfolding with_front
printed = refl

told : Each plain (
    word "v=0" gives true ∷ word "a=" gives true ∷ word "a=ptime:1" gives true ∷ word "" gives true
    ∷ word "a=ts-refclk:gps" gives false ∷ word "a=mediaclk:sender" gives false ∷ word "a=mid:1" gives false ∷ [])
unfolding plain same
told = refl
