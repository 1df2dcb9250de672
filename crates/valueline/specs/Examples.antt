-- What the definition of an accepted value's line says of an example.
use Rattle.std.specs.Prelude.{refl, [], ◌∷◌}
use Rattle.text.specs.Word.{word}
use Rattle.text.specs.Example.{◌gives◌, Each}
use Rattle.number.specs.Hex.{hex_small, hex_bytes}
use Rattle.report.specs.declared.Kind.TheVariants.{Accepted}
use Rattle.report.specs.Reply.{reply}
use Rattle.valueline.specs.Line.{ok_line}

accepted : Each (ok_line (word "local")) (word "local" gives reply Accepted (word "ok local = 6c6f63616c") ∷ [])
unfolding ok_line hex_bytes hex_small
accepted = refl
