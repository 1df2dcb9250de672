-- One law for each way out of the functions that note a mediaclk record. Assumes nothing.
use Rattle.std.specs.Prelude.{Option, Some, None}
use Prim.Native.Nat.{ℕ}
use mathlib.Core.Path.{◌≡◌}
use mathlib.Core.List.{List}
use mathlib.Core.Bool.{Bool, true, false, cond}
use native.Mathlib.Omega.{arith}
use Rattle.text.specs.Word.{word}
use Rattle.number.specs.Decimal.{decimal}
use Rattle.number.specs.Hex.{hex_capitals}
use Rattle.clock.specs.declared.Eui64.{Eui64}
use Rattle.mediarecord.specs.declared.MediaClockId.{MediaClockId}
use Rattle.mediarecord.specs.declared.Rate.{Rate}
use Rattle.mediarecord.specs.declared.Direct.{Direct}
use Rattle.mediarecord.specs.declared.MediaClockExt.{MediaClockExt}
use Rattle.mediarecord.specs.declared.MediaClock.{MediaClock}
use Rattle.mediarecord.specs.declared.MediaClock.TheVariants as media
use Rattle.mediarecord.specs.declared.MediaClockSource.{MediaClockSource}
use Rattle.room.specs.Put.{Put}
use Rattle.room.proofs.Laws.{put_then, put_wider}
use Rattle.recordnotes.specs.Notation.{place_note, extension_note, id_note, offset_note, rate_note, direct_note, media_note, media_clock_source_note}

module _ {l : List ℕ} {at last : ℕ} {r : List ℕ} where
  -- `put_id_kind`, `put_id`
  module _ (src : Bool) where
    pub kind_src : src ≡ true → Put 4 l at (word "src ") last r → Put 4 l at (cond src (word "src ") (word "id ")) last r
    kind_src e f = rw e f

    pub kind_id : src ≡ false → Put 3 l at (word "id ") last r → Put 4 l at (cond src (word "src ") (word "id ")) last r
    kind_id e f = rw e (put_wider f (omega arith))

  module _ (x : Option MediaClockId) where
    pub id_none : x ≡ None → Put 1 l at (word "-") last r → Put 45 l at (id_note x) last r
    id_none e f = rw e (put_wider f (omega arith))

    pub id_some : (d : MediaClockId) {next : ℕ} {m : List ℕ} → x ≡ Some d → Put 4 l at (cond d.src (word "src ") (word "id ")) next m
        → Put 41 m next (place_note d.tag) last r → Put 45 l at (id_note x) last r
    id_some d e f g = rw e (put_then f g)

  -- `put_offset`, `put_rate`, `put_direct`
  module _ (x : Option ℕ) where
    pub offset_none : x ≡ None → Put 1 l at (word "-") last r → Put 10 l at (offset_note x) last r
    offset_none e f = rw e (put_wider f (omega arith))

    pub offset_some : (n : ℕ) → x ≡ Some n → Put 10 l at (decimal n) last r → Put 10 l at (offset_note x) last r
    offset_some n e f = rw e f

  module _ (x : Option Rate) where
    pub rate_none : x ≡ None → Put 1 l at (word "-") last r → Put 21 l at (rate_note x) last r
    rate_none e f = rw e (put_wider f (omega arith))

    pub rate_some : (q : Rate) {a b : ℕ} {m n : List ℕ} → x ≡ Some q → Put 10 l at (decimal q.numerator) a m → Put 1 m a (word "/") b n
        → Put 10 n b (decimal q.denominator) last r → Put 21 l at (rate_note x) last r
    rate_some q e f g h = rw e (put_then (put_then f g) h)

  pub direct_put : (o : Option ℕ) (q : Option Rate) {a b c : ℕ} {k m n : List ℕ} → Put 7 l at (word "direct ") a k → Put 10 k a (offset_note o) b m
      → Put 1 m b (word " ") c n → Put 21 n c (rate_note q) last r → Put 39 l at (direct_note o q) last r
  direct_put o q f g h i = put_then (put_then (put_then f g) h) i

  -- `put_clock`
  module _ (x : MediaClock) where
    pub clock_sender : x ≡ media.Sender → Put 6 l at (word "sender") last r → Put 87 l at (media_note x) last r
    clock_sender e f = rw e (put_wider f (omega arith))

    pub clock_direct : (d : Direct) → x ≡ media.Direct d → Put 39 l at (direct_note d.offset d.rate) last r → Put 87 l at (media_note x) last r
    clock_direct d e f = rw e (put_wider f (omega arith))

    pub clock_stream : (g : Eui64) {next : ℕ} {m : List ℕ} → x ≡ media.Ieee1722StreamId g → Put 7 l at (word "stream ") next m
        → Put 16 m next (hex_capitals 16 g.id) last r → Put 87 l at (media_note x) last r
    clock_stream g e f h = rw e (put_wider (put_then f h) (omega arith))

    pub clock_ext : (c : MediaClockExt) → x ≡ media.Ext c → Put 87 l at (extension_note c.name c.value) last r → Put 87 l at (media_note x) last r
    clock_ext c e f = rw e f

  -- `note_media_clock_source`
  pub source_put : (s : MediaClockSource) {a b : ℕ} {m n : List ℕ} → Put 45 l at (id_note s.id) a m → Put 1 m a (word " ") b n
      → Put 87 n b (media_note s.clock) last r → Put 133 l at (media_clock_source_note s) last r
  unfolding media_clock_source_note
  source_put s f g h = put_then (put_then f g) h

pub ruleset laws = (
  kind_src,
  kind_id,
  id_none,
  id_some,
  offset_none,
  offset_some,
  rate_none,
  rate_some,
  direct_put,
  clock_sender,
  clock_direct,
  clock_stream,
  clock_ext,
  source_put,
)
