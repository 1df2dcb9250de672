-- What the definitions of this crate say of some texts.
use Rattle.std.specs.Prelude.{refl, [], ◌∷◌}
use Rattle.text.specs.Word.{word, ends_in}
use Rattle.text.specs.Example.{◌gives◌, Each}
use Rattle.report.specs.Lines.{without_cr, ended_from, open_from, last_line, lines_of}

-- LF ends a line and takes one CR with it, and a CR at the end of the text stays
lines : Each lines_of (
    word "" gives []
    ∷ word "a" gives (word "a" ∷ [])
    ∷ word "a\n" gives (word "a" ∷ [])
    ∷ word "\r\n\n" gives (word "" ∷ word "" ∷ [])
    ∷ word "a\r\r\nb\rc\nd\r" gives (word "a\r" ∷ word "b\rc" ∷ word "d\r" ∷ [])
    ∷ [])
unfolding lines_of ended_from open_from last_line without_cr ends_in
lines = refl
