-- The laws of those ways out of the functions that write mediaclk for which `room`'s of puts do not suffice. Assumes nothing.
use Rattle.std.specs.Prelude.{Option, Some}
use Rattle.std.proofs.Common.{◌≡◌, ℕ, ◌+◌, cond, List, [], ◌∷◌, length, arith}
use Rattle.text.specs.Place.{bytes_at}
use Rattle.text.specs.Word.{word}
use Rattle.number.specs.Decimal.{decimal}
use Rattle.mediarecord.specs.declared.MediaClockId.{MediaClockId}
use Rattle.mediarecord.specs.declared.Rate.{Rate}
use Rattle.meaning.specs.Meaning.{src_tag, plain_tag, rate_means, id_means}
use Rattle.meaning.specs.Text.{tag_text, id_text, rate_text}
use Rattle.room.specs.Put.{Put}
use Rattle.room.proofs.Laws.{put_then, put_wider}

-- `put_id`
pub id_some : (v : List ℕ) (x : Option MediaClockId) {at a b last : ℕ} {l m n r : List ℕ} (d : MediaClockId) → x ≡ Some d → Put 3 l at (word "id=") a m
    → Put (length v + 4) m a (tag_text (cond d.src (src_tag (bytes_at d.tag v)) (plain_tag (bytes_at d.tag v)))) b n
    → Put 1 n b (32 ∷ []) last r
    → Put (length v + 8) l at (id_text (id_means v x)) last r
id_some v x d e f g h = rw e (put_wider (put_then f (put_then g h)) (omega arith))

-- `put_rate`
pub rate_some : (x : Option Rate) {at a b c last : ℕ} {l k m n r : List ℕ} (q : Rate) → x ≡ Some q → Put 6 l at (word " rate=") a k
    → Put 10 k a (decimal q.numerator) b m → Put 1 m b (47 ∷ []) c n → Put 10 n c (decimal q.denominator) last r
    → Put 27 l at (rate_text (rate_means x)) last r
rate_some x q e f g h i = rw e (put_then f (put_then g (put_then h i)))

pub ruleset laws = (id_some, rate_some)
