-- What writing answers, and what it leaves in the room: the text, then the bytes that stood behind it; on a refusal every byte as it was.
use Rattle.std.specs.Prelude.{ℕ, ◌-◌, List, [], ◌++◌, Bool, cond, not, ltb, length, take, drop, Result, Ok, Err, Option, Some, None}
use Rattle.clock.specs.Refusal.{refusal}
use Rattle.clock.specs.declared.WriteRefusal.{WriteRefusal}
use Rattle.clock.specs.declared.WriteRefusal.TheVariants as refused
use Rattle.clock.specs.declared.ReferenceClock.{ReferenceClock}
use Rattle.mediarecord.specs.declared.MediaClockSource.{MediaClockSource}
use Rattle.meaning.specs.Answer.{most_bytes}
use Rattle.meaning.specs.Text.{reference_clock_text, media_clock_source_text}
use Rattle.meaning.specs.Inside.{reference_clock_inside, media_clock_source_inside}

-- the number of the rules for each refusal
abbrev pub refusal_number : WriteRefusal → ℕ
refusal_number (refused.Value r) = r.number
refusal_number refused.Outside = 23
refusal_number (refused.Room n) = 24

-- the number of an answer: none where the text was written
abbrev pub wrote_number : Result ℕ WriteRefusal → Option ℕ
wrote_number (Ok n) = None
wrote_number (Err r) = Some (refusal_number r)

-- writing the text t of a record over the value v into a room of n bytes: a value over 1,024 bytes is refused, then a place that reaches
-- outside the value, then a room that is too short
unfoldable pub wrote_of : List ℕ → Bool → List ℕ → ℕ → Result ℕ WriteRefusal
wrote_of v inside t n =
    cond (ltb most_bytes (length v)) (Err (refused.Value (refusal 1 most_bytes (length v - most_bytes))))
    (cond (not inside) (Err refused.Outside)
    (cond (ltb n (length t)) (Err (refused.Room (length t)))
    (Ok (length t))))

-- the room afterwards
unfoldable pub room_after : Result ℕ WriteRefusal → List ℕ → List ℕ → List ℕ
room_after (Ok n) t room = t ++ drop n room
room_after (Err r) t room = room

-- the bytes that an answer says were written
unfoldable pub front : Result ℕ WriteRefusal → List ℕ → List ℕ
front (Ok n) room = take n room
front (Err r) room = []

abbrev pub wrote_reference_clock : List ℕ → ReferenceClock → ℕ → Result ℕ WriteRefusal
wrote_reference_clock v c n = wrote_of v (reference_clock_inside v c) (reference_clock_text v c) n

abbrev pub wrote_media_clock_source : List ℕ → MediaClockSource → ℕ → Result ℕ WriteRefusal
wrote_media_clock_source v m n = wrote_of v (media_clock_source_inside v m) (media_clock_source_text v m) n

-- what stands written in the room
unfoldable pub written_reference_clock : List ℕ → ReferenceClock → List ℕ → List ℕ
written_reference_clock v c room =
    let w = wrote_reference_clock v c (length room) in front w (room_after w (reference_clock_text v c) room)

unfoldable pub written_media_clock_source : List ℕ → MediaClockSource → List ℕ → List ℕ
written_media_clock_source v m room =
    let w = wrote_media_clock_source v m (length room) in front w (room_after w (media_clock_source_text v m) room)
