-- The line of the totals as far as the clocks, and as far as the refused streams.
use Rattle.std.specs.Prelude.{ℕ, List, ◌++◌}
use Rattle.text.specs.Word.{word}
use Rattle.number.specs.Decimal.{decimal}

abbrev pub totals_front : ℕ → ℕ → ℕ → List ℕ
totals_front lines streams clocks = word "lines " ++ decimal lines ++ word " streams " ++ decimal streams ++ word " clocks " ++ decimal clocks

abbrev pub totals_most : ℕ → ℕ → ℕ → ℕ → ℕ → List ℕ
totals_most lines streams clocks counted refused =
    totals_front lines streams clocks ++ word " counted " ++ decimal counted ++ word " refused " ++ decimal refused
