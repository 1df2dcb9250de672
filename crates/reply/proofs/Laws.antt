-- One law for each way out of this crate's functions. Assumes nothing.
use Rattle.std.specs.Prelude.{Result, Ok, Err}
use Prim.Native.Nat.{ℕ, ◌≤◌, ◌<◌}
use mathlib.Core.Path.{◌≡◌, refl, sym, ◌∙◌}
use mathlib.Core.List.{List, [], ◌∷◌}
use mathlib.Core.Bool.{Bool, true, false}
use native.Mathlib.Omega.{arith}
use lib.ListN.{length, length-append}
use borrow.Author.Tests.{lt-ltb, le-ltb}
use Rattle.text.specs.Word.{word, starts}
use Rattle.text.proofs.Cuts.{starts_long}
use Rattle.text.proofs.Left.{rest, rest_is}
use Rattle.clock.specs.declared.Refusal.{Refusal}
use Rattle.clock.specs.declared.ReferenceClock.{ReferenceClock}
use Rattle.mediarecord.specs.declared.MediaClockSource.{MediaClockSource}
use Rattle.meaning.specs.ReferenceClock.{read_reference_clock}
use Rattle.meaning.specs.MediaClock.{read_media_clock_source}
use Rattle.meaning.specs.Text.{reference_clock_text, media_clock_source_text}
use Rattle.room.specs.Put.{Put}
use Rattle.room.proofs.Laws.{put_then, put_wider, put_length, put_front}
use Rattle.report.specs.declared.Kind.TheVariants.{Accepted, Refused, Other, Long}
use Rattle.report.specs.Reply.{Reply, reply, ok_reply, no_reply, ts_refclk_reply, mediaclk_reply, reply_to}
use Rattle.report.proofs.Bounds.{Writable, ref_writable, media_writable}
use Rattle.briefreply.specs.declared.ReplySize.{ReplySize}
use Rattle.briefreply.specs.Gives.{Gives}
use Rattle.briefreply.proofs.Laws.{front_fits, front_not, reply_size}
use Rattle.reply.specs.Private.Parts.{Puts}

-- `put_no`
pub no_put : (r : Refusal) (room : List ℕ) (next : ℕ) (after : List ℕ) → Put 66 room 0 (no_reply r).says next after
    → Puts (no_reply r) room (reply_size Refused next) after
unfolding no_reply
no_put r room next after p = record { kind = refl; put = put_wider p (omega arith) }

-- `put_ok_clock` and `put_ok_source`
module _ {v t : List ℕ} {inside : Bool} (can : Writable v inside t) {most at end : ℕ} {room l m : List ℕ}
    (p : Put 3 room 0 (word "ok ") at l) (q : Put most l at t end m) where
  pub ok_put : (len : ℕ) (after : List ℕ) → Put 1 m end (10 ∷ []) len after → Puts (ok_reply t) room (reply_size Accepted len) after
  ok_put len after r =
      let all = put_then (put_then p q) r in
      record {
        kind = refl;
        put =
            record {
              place = all.place;
              bound = simp length-append (omega (arith, can.longer, can.short));
              bytes = all.bytes;
              reach = all.reach;
            };
      }

-- `put_ts_refclk`
module _ (v : List ℕ) (y : Result ReferenceClock Refusal) (ey : y ≡ read_reference_clock v) where
  pub ref_read : (c : ReferenceClock) → y ≡ Ok c → Ok c ≡ read_reference_clock v
  ref_read c e = sym e ∙ ey

  module _ (room after : List ℕ) (x : ReplySize) where
    pub ref_ok : (c : ReferenceClock) → y ≡ Ok c → Puts (ok_reply (reference_clock_text v c)) room x after
        → Puts (ts_refclk_reply v) room x after
    unfolding ts_refclk_reply
    ref_ok c e p = rw (← ey, e) p

    pub ref_no_lem : (r : Refusal) → y ≡ Err r → Puts (no_reply r) room x after → Puts (ts_refclk_reply v) room x after
    unfolding ts_refclk_reply
    ref_no_lem r e p = rw (← ey, e) p

-- `put_mediaclk`
module _ (v : List ℕ) (y : Result MediaClockSource Refusal) (ey : y ≡ read_media_clock_source v) where
  pub media_read : (m : MediaClockSource) → y ≡ Ok m → Ok m ≡ read_media_clock_source v
  media_read m e = sym e ∙ ey

  module _ (room after : List ℕ) (x : ReplySize) where
    pub media_ok : (m : MediaClockSource) → y ≡ Ok m → Puts (ok_reply (media_clock_source_text v m)) room x after
        → Puts (mediaclk_reply v) room x after
    unfolding mediaclk_reply
    media_ok m e p = rw (← ey, e) p

    pub media_no_lem : (r : Refusal) → y ≡ Err r → Puts (no_reply r) room x after → Puts (mediaclk_reply v) room x after
    unfolding mediaclk_reply
    media_no_lem r e p = rw (← ey, e) p

-- `put_reply`
module _ (l room after : List ℕ) (x : ReplySize) where
  pub line_long : (most : ℕ) → 4096 ≤ most → most < length l → Puts (reply Long (word "long")) room x after → Puts (reply_to l) room x after
  unfolding reply_to
  line_long most k h p = simp (lt-ltb 4096 (length l) (omega arith)) p

  module _ (h : length l ≤ 4096) (s : Bool) (es : s ≡ starts (word "a=ts-refclk:") l) where
    pub line_ref : s ≡ true → Puts (ts_refclk_reply (rest 12 l)) room x after → Puts (reply_to l) room x after
    unfolding reply_to
    line_ref e p = simp (le-ltb 4096 (length l) h, ← es, e) (rw rest_is at p)

    module _ (e : s ≡ false) (m : Bool) (em : m ≡ starts (word "a=mediaclk:") l) where
      pub line_media : m ≡ true → Puts (mediaclk_reply (rest 11 l)) room x after → Puts (reply_to l) room x after
      unfolding reply_to
      line_media f p = simp (le-ltb 4096 (length l) h, ← es, e, ← em, f) (rw rest_is at p)

      pub line_other : m ≡ false → Puts (reply Other (word "--")) room x after → Puts (reply_to l) room x after
      unfolding reply_to
      line_other f p = simp (le-ltb 4096 (length l) h, ← es, e, ← em, f) p

-- `reply_to_line`
module _ (x : Reply) (room after : List ℕ) (r : ReplySize) (p : Puts x room r after) where
  put_gives : length x.says ≤ length room → Gives x room r after
  put_gives h =
      record {
        kind = p.kind;
        len = put_length p.put (omega arith);
        leaves = put_front p.put h ∙ sym (front_fits x.says room h);
      }

  pub gives_ample : (most : ℕ) → 1030 ≤ most → most ≤ length room → Gives x room r after
  gives_ample most k h = put_gives (omega (arith, p.put.bound))

  pub gives_fit : (m : ReplySize) → (m.kind ≡ x.kind) × (m.len ≡ length x.says) → m.len ≤ length room → Gives x room r after
  gives_fit m e h = put_gives (omega (arith, e.1))

pub gives_short : (x : Reply) (room : List ℕ) (m : ReplySize) → (m.kind ≡ x.kind) × (m.len ≡ length x.says) → length room < m.len
    → Gives x room m room
gives_short x room m e h =
    record { kind = e.0; len = e.1; leaves = sym (front_not x.says room (omega (arith, e.1))) }

-- a line that begins so has the bytes of the word
module _ (l : List ℕ) (s : Bool) (e : s ≡ true) where
  pub ref_long : s ≡ starts (word "a=ts-refclk:") l → 12 ≤ length l
  ref_long es = starts_long (word "a=ts-refclk:") l (sym es ∙ e)

  pub media_long : s ≡ starts (word "a=mediaclk:") l → 11 ≤ length l
  media_long es = starts_long (word "a=mediaclk:") l (sym es ∙ e)

pub ruleset laws = (
  no_put,
  ref_writable,
  media_writable,
  ok_put,
  ref_read,
  ref_ok,
  ref_no_lem,
  media_read,
  media_ok,
  media_no_lem,
  line_long,
  line_ref,
  line_media,
  line_other,
  gives_ample,
  gives_fit,
  gives_short,
  ref_long,
  media_long,
)
