-- What the definitions say of some lines.
use Rattle.std.specs.Prelude.{ℕ, refl, List, [], ◌∷◌, ◌++◌, replicate, Some, None}
use Rattle.text.specs.Word.{word, same}
use Rattle.text.specs.Example.{◌gives◌, Each}
use Rattle.roll.specs.Taking.{stream_of}

-- only a ts-refclk line is that of a stream, and its value may be empty
streams : Each stream_of (
    word "a=ts-refclk:gps" gives Some (word "gps")
    ∷ word "a=ts-refclk:" gives Some []
    ∷ word "a=ts-refclk" gives None
    ∷ word "a=ts-refclk gps" gives None
    ∷ word "a=mediaclk:sender" gives None
    ∷ word "" gives None
    ∷ [])
unfolding stream_of same
streams = refl

-- a line of 4,096 bytes is one, and with a byte more none
abbrev long : ℕ → List ℕ
long n = word "a=ts-refclk:" ++ replicate n 120

limit : Each (λ (n : ℕ). stream_of (long n)) (4084 gives Some (replicate 4084 120) ∷ 4085 gives None ∷ [])
unfolding stream_of same
limit = refl
