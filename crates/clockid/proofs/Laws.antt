-- What each reader of the crate comes to on each way through it. Assumes nothing.
use Rattle.std.specs.Prelude.{Ok}
use Prim.Native.Nat.{ℕ, ◌+◌}
use mathlib.Core.Path.{◌≡◌}
use mathlib.Core.List.{List}
use mathlib.Core.Bool.{Bool, true, false}
use lib.ListN.{length, drop}
use Rattle.text.specs.Place.{place}
use Rattle.text.specs.Word.{word, starts}
use Rattle.mediarecord.specs.Records.{media_clock_id}
use Rattle.meaning.specs.Answer.{refuse, empty}
use Rattle.meaning.specs.MediaClock.{tag_of, id_of}

module _ (at : ℕ) (s : List ℕ) where
  -- `read_tag`
  module _ (src : Bool) where
    pub tag_empty : empty s ≡ true → tag_of src at s ≡ refuse 13 at 0
    unfolding tag_of
    tag_empty e = simp e

    pub tag_is : empty s ≡ false → tag_of src at s ≡ Ok (media_clock_id src (place at (length s)))
    unfolding tag_of
    tag_is e = simp e

  -- `read_id`
  pub id_src : starts (word "src:") s ≡ true → id_of at s ≡ tag_of true (at + 4) (drop 4 s)
  unfolding id_of
  id_src e = simp e

  pub id_plain : starts (word "src:") s ≡ false → id_of at s ≡ tag_of false at s
  unfolding id_of
  id_plain e = simp e

pub ruleset laws = (
  tag_empty,
  tag_is,
  id_src,
  id_plain,
)
