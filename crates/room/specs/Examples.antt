-- What a put leaves in the room: `sets` stores "xyz" from the second place on, as far as the room reaches. And the place behind three bytes.
use Rattle.std.specs.Prelude.{[], ◌∷◌, refl}
use Rattle.std.proofs.lemmas.List.Edits.{sets}
use Rattle.text.specs.Word.{word}
use Rattle.text.specs.Example.{◌gives◌, Each}
use Rattle.room.specs.Put.{behind}

stored : Each (λ room. sets room 1 (word "xyz")) (
    word "abcdef" gives word "axyzef" ∷ word "abcd" gives word "axyz" ∷ word "abc" gives word "axy" ∷ word "a" gives word "a" ∷ [])
stored = refl

counted : Each (λ at. behind at 3) (
    0 gives 3 ∷ 18446744073709551612 gives 18446744073709551615 ∷ 18446744073709551613 gives 18446744073709551615
    ∷ 18446744073709551615 gives 18446744073709551615 ∷ [])
counted = refl
