-- Demand 3 of what the two writers leave: what stands in the room is what `meaning` says is written. Assumes nothing.
use Rattle.std.specs.Prelude.{Result, Ok}
use Prim.Native.Nat.{ℕ}
use mathlib.Core.Path.{◌≡◌, refl, sym, ap, ◌∙◌}
use mathlib.Core.List.{List}
use mathlib.Core.Bool.{Bool}
use lib.ListN.{length}
use Rattle.clock.specs.declared.ReferenceClock.{ReferenceClock}
use Rattle.mediarecord.specs.declared.MediaClockSource.{MediaClockSource}
use Rattle.meaning.specs.Written.{wrote_of, room_after, front, written_reference_clock, written_media_clock_source}
use Rattle.meaning.proofs.Demand3.{ref_written_lem, ref_read_back, ref_demand, media_written, media_read_back, media_demand}
use Rattle.writing.specs.Writes.{Writes}
use Rattle.writing.specs.Demand3.{RefCall, MediaCall, RefSucceeds, MediaSucceeds, RefLeftReads, MediaLeftReads, RefLeft, MediaLeft}
use Rattle.clock.specs.declared.WriteRefusal.{WriteRefusal}

left : {v : List ℕ} {inside : Bool} {t room : List ℕ} {answer : (Result ℕ WriteRefusal)} {after : List ℕ} → Writes v inside t room answer after
    → front answer after ≡ front (wrote_of v inside t (length room)) (room_after (wrote_of v inside t (length room)) t room)
left p = rw (p.says, p.leaves) refl

module _ {v : List ℕ} {c : ReferenceClock} {answer : (Result ℕ WriteRefusal)} {after : List ℕ} (call : RefCall v c answer after) where
  ref_stands : front answer after ≡ written_reference_clock v c call.room
  unfolding written_reference_clock
  ref_stands = left call.writes

module _ {v : List ℕ} {m : MediaClockSource} {answer : (Result ℕ WriteRefusal)} {after : List ℕ} (call : MediaCall v m answer after) where
  media_stands : front answer after ≡ written_media_clock_source v m call.room
  unfolding written_media_clock_source
  media_stands = left call.writes

pub ref_succeeds : RefSucceeds
ref_succeeds v c answer after call =
    call.writes.says ∙ (ref_written_lem v c call.room call.given).succeeds
    ∙ ap (λ (t : List ℕ). Ok (length t)) (sym (ref_stands call))

pub media_succeeds : MediaSucceeds
media_succeeds v m answer after call =
    call.writes.says ∙ (media_written v m call.room call.given).succeeds
    ∙ ap (λ (t : List ℕ). Ok (length t)) (sym (media_stands call))

pub ref_left_reads : RefLeftReads
ref_left_reads v c answer after call = rw (ref_stands call) (ref_read_back v c call.room call.given)

pub media_left_reads : MediaLeftReads
media_left_reads v m answer after call = rw (media_stands call) (media_read_back v m call.room call.given)

pub ref_left : RefLeft
ref_left v w c d answer other after later call again =
    rw (ref_stands call, ref_stands again) (ref_demand v w c d call.room again.room call.given again.given)

pub media_left : MediaLeft
media_left v w m n answer other after later call again =
    rw (media_stands call, media_stands again) (media_demand v w m n call.room again.room call.given again.given)
