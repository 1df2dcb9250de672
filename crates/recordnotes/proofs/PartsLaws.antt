-- One law for each way out of the functions that note what both attributes share. Assumes nothing.
use Rattle.std.specs.Prelude.{Option, Some, None}
use Prim.Native.Nat.{ℕ}
use mathlib.Core.Path.{◌≡◌}
use mathlib.Core.List.{List}
use native.Mathlib.Omega.{arith}
use Rattle.text.specs.Word.{word}
use Rattle.text.specs.declared.Place.{Place}
use Rattle.number.specs.Decimal.{decimal}
use Rattle.room.specs.Put.{Put}
use Rattle.room.proofs.Laws.{put_then, put_wider}
use Rattle.recordnotes.specs.Notation.{place_note, value_note, extension_note}

module _ {l : List ℕ} {at last : ℕ} {r : List ℕ} where
  -- `put_place`
  pub place_put : (p : Place) {a b : ℕ} {m n : List ℕ} → Put 20 l at (decimal p.start) a m → Put 1 m a (word "+") b n
      → Put 20 n b (decimal p.len) last r → Put 41 l at (place_note p) last r
  place_put p f g h = put_then (put_then f g) h

  -- `put_value`
  module _ (x : Option Place) where
    pub value_none : x ≡ None → Put 1 l at (word "-") last r → Put 41 l at (value_note x) last r
    value_none e f = rw e (put_wider f (omega arith))

    pub value_some : (p : Place) → x ≡ Some p → Put 41 l at (place_note p) last r → Put 41 l at (value_note x) last r
    value_some p e f = rw e f

  -- `put_extension`
  pub extension_put : (name : Place) (x : Option Place) {a b c : ℕ} {k m n : List ℕ} → Put 4 l at (word "ext ") a k → Put 41 k a (place_note name) b m
      → Put 1 m b (word " ") c n → Put 41 n c (value_note x) last r → Put 87 l at (extension_note name x) last r
  extension_put name x f g h i = put_then (put_then (put_then f g) h) i

pub ruleset laws = (place_put, value_none, value_some, extension_put)
