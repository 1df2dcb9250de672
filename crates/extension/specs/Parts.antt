-- An extension as a function of its parts.
use Rattle.text.specs.declared.Place.{Place}
use Rattle.std.specs.Prelude.{Option}
use Rattle.extension.specs.declared.Extension.{Extension}

abbrev pub extension_of_parts : Place → Option Place → Extension
extension_of_parts n v = record { name = n; value = v }
