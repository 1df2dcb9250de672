-- What stands before the clock, and what follows of it.
use Rattle.std.specs.Prelude.{ℕ, List, drop, Ok, Err}
use Rattle.mediarecord.specs.declared.MediaClockSource.{MediaClockSource}
use Rattle.meaning.specs.Answer.{Answer}
use Rattle.meaning.specs.MediaClock.{media_clock_of, with_clock}
use Rattle.mediaclk.specs.declared.Front.{Front}

-- the source of which the front was read so: the clock is read behind it, or the refusal is handed on
abbrev pub behind_front : List ℕ → Answer Front → Answer MediaClockSource
behind_front s (Ok f) = with_clock f.id (media_clock_of f.start (drop f.start s))
behind_front s (Err r) = Err r

-- where the clock starts; 0 where there is none
abbrev pub clock_start : Answer Front → ℕ
clock_start (Ok f) = f.start
clock_start (Err r) = 0
