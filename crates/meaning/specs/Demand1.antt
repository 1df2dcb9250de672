-- Demand 1. Every byte string is answered: a value over 1,024 bytes is refused, then one that is not well-formed UTF-8, and every other is answered
-- by the rules of its attribute alone. A refused reading gives its number and its place; a refused writing gives its number and changes no byte of
-- the room. `proofs/Demand1.antt` and, of the places, `proofs/Placed.antt` prove these statements.
use Rattle.std.specs.Prelude.{ℕ, ◌+◌, ◌≤◌, ◌<◌, ◌≡◌, List, Bool, true, false, length, take, drop, Result, Ok, Err, Some, None}
use Rattle.abnf.specs.Rule.{longest}
use Rattle.utf8.specs.Utf8.{utf8_octets}
use Rattle.clock.specs.declared.Refusal.{Refusal}
use Rattle.meaning.specs.Answer.{Answer}
use Rattle.meaning.specs.Domain.{bare}
use Rattle.meaning.specs.ReferenceClock.{clock_of, read_reference_clock}
use Rattle.meaning.specs.MediaClock.{source_of, read_media_clock_source}
use Rattle.meaning.specs.Written.{wrote_number, wrote_of, room_after}
use Rattle.clock.specs.declared.WriteRefusal.{WriteRefusal}

-- reading
module _ {A : Type 0} where
  -- refused with the number k, at the bytes from `start` up to `end`
  pub record RefusedAt (answer : Answer A) (k start end : ℕ) : Type 0 where
    pub refusal : Refusal
    pub is : answer ≡ Err refusal
    pub number : refusal.number ≡ k
    pub from : refusal.place.start ≡ start
    pub to : refusal.place.start + refusal.place.len ≡ end

  -- the answer to the value v, of which the rules alone answer `rules`
  pub record Answered (v : List ℕ) (rules answer : Answer A) : Type 0 where
    pub long : 1024 < length v → RefusedAt answer 1 1024 (length v)
    pub ill : length v ≤ 1024 → utf8_octets v ≡ false → RefusedAt answer 2 (longest utf8_octets v) (longest utf8_octets v + 1)
    pub well : length v ≤ 1024 → utf8_octets v ≡ true → answer ≡ rules

abbrev pub RefAnswered : Type 0
RefAnswered = (v : List ℕ) → Answered v (clock_of bare v) (read_reference_clock v)

abbrev pub MediaAnswered : Type 0
MediaAnswered = (v : List ℕ) → Answered v (source_of v) (read_media_clock_source v)

-- a refusal of the value v: a number from 1 to 22, and a place inside v
pub record RefusalOf (v : List ℕ) (r : Refusal) : Type 0 where
  pub least : 1 ≤ r.number
  pub most : r.number ≤ 22
  pub inside : r.place.start + r.place.len ≤ length v

abbrev pub RefRefusals : Type 0
RefRefusals = (v : List ℕ) (r : Refusal) → read_reference_clock v ≡ Err r → RefusalOf v r

abbrev pub MediaRefusals : Type 0
MediaRefusals = (v : List ℕ) (r : Refusal) → read_media_clock_source v ≡ Err r → RefusalOf v r

-- writing the text t of a record over the value v, inside which its places lie or not, into n bytes of room: the number that is owed
pub record Numbered (v : List ℕ) (inside : Bool) (t : List ℕ) (n : ℕ) (answer : Result ℕ WriteRefusal) : Type 0 where
  pub long : 1024 < length v → wrote_number answer ≡ Some 1
  pub outside : length v ≤ 1024 → inside ≡ false → wrote_number answer ≡ Some 23
  pub short : length v ≤ 1024 → inside ≡ true → n < length t → wrote_number answer ≡ Some 24
  pub written : length v ≤ 1024 → inside ≡ true → length t ≤ n → wrote_number answer ≡ None

abbrev pub WritingNumbered : Type 0
WritingNumbered = (v : List ℕ) (inside : Bool) (t : List ℕ) (n : ℕ) → Numbered v inside t n (wrote_of v inside t n)

-- the room after an answer: on a refusal every byte is as it was; else the text stands at its front, and what stood behind is as it was
pub record RoomLeft (t room : List ℕ) (answer : Result ℕ WriteRefusal) (after : List ℕ) : Type 0 where
  pub kept : (k : ℕ) → wrote_number answer ≡ Some k → after ≡ room
  pub said : wrote_number answer ≡ None → answer ≡ Ok (length t)
  pub text : wrote_number answer ≡ None → take (length t) after ≡ t
  pub behind : wrote_number answer ≡ None → drop (length t) after ≡ drop (length t) room
  pub size : length after ≡ length room

abbrev pub WritingLeaves : Type 0
WritingLeaves =
    (v : List ℕ) (inside : Bool) (t room : List ℕ)
    → RoomLeft t room (wrote_of v inside t (length room)) (room_after (wrote_of v inside t (length room)) t room)
