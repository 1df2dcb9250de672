-- The records with another part: what the setters give.
use Rattle.std.specs.Prelude.{ℕ, Bool, Some}
use Rattle.text.specs.declared.Place.{Place}
use Rattle.mediarecord.specs.declared.MediaClockSource.{MediaClockSource}
use Rattle.mediarecord.specs.declared.MediaClockId.{MediaClockId}
use Rattle.mediarecord.specs.declared.Rate.{Rate}
use Rattle.mediarecord.specs.declared.Direct.{Direct}
use Rattle.mediarecord.specs.declared.MediaClockExt.{MediaClockExt}

abbrev pub with_id : MediaClockSource → MediaClockId → MediaClockSource
with_id m i = record { id = Some i; clock = m.clock }

abbrev pub with_src : MediaClockId → Bool → MediaClockId
with_src i b = record { src = b; tag = i.tag }

abbrev pub with_offset : Direct → ℕ → Direct
with_offset d n = record { offset = Some n; rate = d.rate }

abbrev pub with_rate : Direct → Rate → Direct
with_rate d r = record { offset = d.offset; rate = Some r }

abbrev pub with_media_value : MediaClockExt → Place → MediaClockExt
with_media_value e v = record { name = e.name; value = Some v }
