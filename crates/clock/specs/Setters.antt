-- An extension with another value: what its setter gives.
use Rattle.std.specs.Prelude.{Some}
use Rattle.text.specs.declared.Place.{Place}
use Rattle.clock.specs.declared.ClockSourceExt.{ClockSourceExt}

abbrev pub with_source_value : ClockSourceExt → Place → ClockSourceExt
with_source_value e v = record { name = e.name; value = Some v }
