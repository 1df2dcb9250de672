-- One law for each way out of the functions that put a value's line into the room. Assumes nothing.
use Rattle.std.specs.Prelude.{Result, Ok, Err}
use Prim.Native.Nat.{ℕ, ◌+◌, ◌*◌, ◌≤◌, ◌<◌}
use mathlib.Core.Path.{◌≡◌, refl, sym, ap, ◌∙◌}
use mathlib.Core.List.{List, [], ◌∷◌, ◌++◌}
use mathlib.Core.Bool.{Bool}
use native.Mathlib.Omega.{arith}
use lib.ListN.{length, take, drop, length-append}
use lib.Seq.{take_at}
use borrow.Author.Tests.{le-ltb}
use Rattle.text.specs.Word.{word}
use Rattle.text.specs.Place.{Lent, PartAt, place, bytes_at}
use Rattle.number.specs.Hex.{hex_bytes}
use Rattle.clock.specs.declared.Refusal.{Refusal}
use Rattle.clock.specs.declared.ReferenceClock.{ReferenceClock}
use Rattle.mediarecord.specs.declared.MediaClockSource.{MediaClockSource}
use Rattle.clock.specs.declared.WriteRefusal.{WriteRefusal}
use Rattle.meaning.specs.ReferenceClock.{read_reference_clock}
use Rattle.meaning.specs.MediaClock.{read_media_clock_source}
use Rattle.meaning.specs.Text.{reference_clock_text, media_clock_source_text}
use Rattle.meaning.specs.Inside.{reference_clock_inside, media_clock_source_inside}
use Rattle.meaning.specs.Written.{wrote_of, room_after}
use Rattle.room.specs.Put.{Put}
use Rattle.room.proofs.Laws.{put_then, put_length, put_front}
use Rattle.writing.specs.Writes.{Writes}
use Rattle.report.specs.declared.Kind.TheVariants.{Accepted}
use Rattle.report.specs.Reply.{no_reply}
use Rattle.report.proofs.Bounds.{Writable, ref_writable, media_writable}
use Rattle.briefreply.specs.declared.ReplySize.{ReplySize}
use Rattle.briefreply.specs.Gives.{Gives}
use Rattle.briefreply.proofs.Laws.{front_fits, front_not}
use Rattle.recordnotes.specs.Notation.{reference_clock_note, media_clock_source_note}
use Rattle.valueline.specs.Line.{ok_line, ts_refclk_line, mediaclk_line}
use Rattle.valueline.specs.Private.Parts.{text_length}

hex_length : (s : List ℕ) → length (hex_bytes s) ≡ 2 * length s
unfolding hex_bytes
hex_length [] = refl
hex_length (b ∷ s) = omega (arith, hex_length s)

-- `ok_line`
module _ (note text room : List ℕ) where
  abbrev line_length : ℕ
  line_length = length note + 2 * length text + 7

  abbrev reply_size : ReplySize
  reply_size = record { kind = Accepted; len = line_length }

  line_length_lem : length (ok_line note text).says ≡ line_length
  unfolding ok_line
  line_length_lem = simp length-append (omega (arith, hex_length text))

  pub ok_short : length room < line_length → Gives (ok_line note text) room reply_size room
  unfolding ok_line
  ok_short h =
      record { kind = refl; len = sym line_length_lem; leaves = sym (front_not (ok_line note text).says room (omega (arith, line_length_lem))) }

  pub ok_put : {a b c d e : ℕ} {k l m n after : List ℕ} → line_length ≤ length room → Put 3 room 0 (word "ok ") a k → Put (length note) k a note b l
      → Put 3 l b (word " = ") c m → Put (2 * length text) m c (hex_bytes text) d n → Put 1 n d (10 ∷ []) e after
      → Gives (ok_line note text) room reply_size after
  unfolding ok_line
  ok_put h p q r s t =
      let fits : length (ok_line note text).says ≤ length room = omega (arith, line_length_lem) in
      record {
        kind = refl;
        len = sym line_length_lem;
        leaves =
            put_front (put_then (put_then (put_then (put_then p q) r) s) t) fits
            ∙ sym (front_fits (ok_line note text).says room fits);
      }

-- what stands at the front of an array, handed out as a part
at_front : (t l : List ℕ) {n : ℕ} {array part : Lent} → n ≡ length t → array.now ≡ t ++ drop (length t) l → PartAt array (place 0 n) part → part.now ≡ t
unfolding bytes_at
at_front t l {n = n} e f is = is.bytes ∙ ap (take n) f ∙ take_at t (drop (length t) l) n (sym e)

-- a record's notation there
module _ {k j : ℕ} {t l : List ℕ} {array part : Lent} (e : length l ≡ k) (p : Put k l 0 t j array.now) (is : PartAt array (place 0 j) part) where
  noted : part.now ≡ t
  noted = at_front t l (put_length p (omega (arith, e, p.reach))) (put_front p (omega (arith, p.bound))) is

  note_length : length part.now ≤ k
  note_length = rw noted p.bound

-- the text of a record just read there
module _ {v t l : List ℕ} {inside : Bool} {a : (Result ℕ WriteRefusal)} {n : ℕ} {array part : Lent}
    (can : Writable v inside t) (e : length l ≡ 1026) (w : Writes v inside t l a array.now)
    (f : n ≡ text_length a) (is : PartAt array (place 0 n) part) where
  wrote_all : wrote_of v inside t (length l) ≡ Ok (length t)
  unfolding wrote_of
  wrote_all =
      simp (le-ltb 1024 (length v) can.short, can.within, le-ltb (length l) (length t) (omega (arith, e, can.longer, can.short)))

  text_is : part.now ≡ t
  unfolding text_length room_after
  text_is =
      at_front t l (f ∙ ap text_length (w.says ∙ wrote_all)) (w.leaves ∙ ap (λ (x : Result ℕ WriteRefusal). room_after x t l) wrote_all) is

  text_short : length part.now ≤ 1026
  text_short = rw text_is (omega (arith, can.longer, can.short))

-- `line_of_clock` and `line_of_source`
module _ {l : List ℕ} {j : ℕ} {notes note : Lent} (is : PartAt notes (place 0 j) note) where
  pub clock_note : (c : ReferenceClock) → Put 109 l 0 (reference_clock_note c) j notes.now → length l ≡ 109 → length note.now ≤ 133
  clock_note c p d = omega (arith, note_length d p is)

  pub source_note : (s : MediaClockSource) → Put 133 l 0 (media_clock_source_note s) j notes.now → length l ≡ 133 → length note.now ≤ 133
  source_note s p d = note_length d p is

module _ {m : List ℕ} {n : ℕ} {a : (Result ℕ WriteRefusal)} {texts text : Lent} (it : PartAt texts (place 0 n) text) (f : n ≡ text_length a) where
  pub clock_text_lem : (v : List ℕ) (c : ReferenceClock) → Writes v (reference_clock_inside v c) (reference_clock_text v c) m a texts.now → length m ≡ 1026
      → Ok c ≡ read_reference_clock v → length text.now ≤ 1026
  clock_text_lem v c w e read = text_short (ref_writable v c read) e w f it

  pub source_text : (v : List ℕ) (s : MediaClockSource) → Writes v (media_clock_source_inside v s) (media_clock_source_text v s) m a texts.now
      → length m ≡ 1026 → Ok s ≡ read_media_clock_source v → length text.now ≤ 1026
  source_text v s w e read = text_short (media_writable v s read) e w f it

module _ (v : List ℕ) {l m room after : List ℕ} {j n : ℕ} {a : (Result ℕ WriteRefusal)} {x : ReplySize} {notes texts note text : Lent}
    (q : Gives (ok_line note.now text.now) room x after) (is : PartAt notes (place 0 j) note)
    (it : PartAt texts (place 0 n) text) (f : n ≡ text_length a) where
  pub clock_said : (c : ReferenceClock) → Put 109 l 0 (reference_clock_note c) j notes.now → length l ≡ 109
      → Writes v (reference_clock_inside v c) (reference_clock_text v c) m a texts.now → length m ≡ 1026 → Ok c ≡ read_reference_clock v
      → Gives (ok_line (reference_clock_note c) (reference_clock_text v c)) room x after
  clock_said c p d w e read = rw (noted d p is, text_is (ref_writable v c read) e w f it) at q

  pub source_said : (s : MediaClockSource) → Put 133 l 0 (media_clock_source_note s) j notes.now → length l ≡ 133
      → Writes v (media_clock_source_inside v s) (media_clock_source_text v s) m a texts.now → length m ≡ 1026
      → Ok s ≡ read_media_clock_source v → Gives (ok_line (media_clock_source_note s) (media_clock_source_text v s)) room x after
  source_said s p d w e read = rw (noted d p is, text_is (media_writable v s read) e w f it) at q

-- `line_of_reference_clock` and `line_of_media_clock_source`
module _ (v : List ℕ) (a : Result ReferenceClock Refusal) (is : a ≡ read_reference_clock v) where
  pub ref_read : (c : ReferenceClock) → a ≡ Ok c → Ok c ≡ read_reference_clock v
  ref_read c e = sym e ∙ is

  module _ (room after : List ℕ) (x : ReplySize) where
    pub ref_ok : (c : ReferenceClock) → a ≡ Ok c → Gives (ok_line (reference_clock_note c) (reference_clock_text v c)) room x after
        → Gives (ts_refclk_line v) room x after
    unfolding ts_refclk_line
    ref_ok c e p = rw (← is, e) p

    pub ref_no_lem : (r : Refusal) → a ≡ Err r → Gives (no_reply r) room x after → Gives (ts_refclk_line v) room x after
    unfolding ts_refclk_line
    ref_no_lem r e p = rw (← is, e) p

module _ (v : List ℕ) (a : Result MediaClockSource Refusal) (is : a ≡ read_media_clock_source v) where
  pub media_read : (s : MediaClockSource) → a ≡ Ok s → Ok s ≡ read_media_clock_source v
  media_read s e = sym e ∙ is

  module _ (room after : List ℕ) (x : ReplySize) where
    pub media_ok : (s : MediaClockSource) → a ≡ Ok s → Gives (ok_line (media_clock_source_note s) (media_clock_source_text v s)) room x after
        → Gives (mediaclk_line v) room x after
    unfolding mediaclk_line
    media_ok s e p = rw (← is, e) p

    pub media_no_lem : (r : Refusal) → a ≡ Err r → Gives (no_reply r) room x after → Gives (mediaclk_line v) room x after
    unfolding mediaclk_line
    media_no_lem r e p = rw (← is, e) p

pub ruleset laws = (
  ok_short,
  ok_put,
  clock_note,
  clock_text_lem,
  clock_said,
  source_note,
  source_text,
  source_said,
  ref_read,
  ref_ok,
  ref_no_lem,
  media_read,
  media_ok,
  media_no_lem,
)
