-- The structs, each as a function of its parts.
use Rattle.std.specs.Prelude.{ℕ, Bool, Option}
use Rattle.text.specs.declared.Place.{Place}
use Rattle.mediarecord.specs.declared.MediaClockSource.{MediaClockSource}
use Rattle.mediarecord.specs.declared.MediaClock.{MediaClock}
use Rattle.mediarecord.specs.declared.MediaClockId.{MediaClockId}
use Rattle.mediarecord.specs.declared.Rate.{Rate}
use Rattle.mediarecord.specs.declared.Direct.{Direct}
use Rattle.mediarecord.specs.declared.MediaClockExt.{MediaClockExt}

abbrev pub media_clock_source : Option MediaClockId → MediaClock → MediaClockSource
media_clock_source i c = record { id = i; clock = c }

abbrev pub media_clock_id : Bool → Place → MediaClockId
media_clock_id s t = record { src = s; tag = t }

abbrev pub rate : ℕ → ℕ → Rate
rate n d = record { numerator = n; denominator = d }

abbrev pub direct : Option ℕ → Option Rate → Direct
direct o r = record { offset = o; rate = r }

abbrev pub media_clock_ext : Place → Option Place → MediaClockExt
media_clock_ext n v = record { name = n; value = v }
