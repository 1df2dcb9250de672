-- What each reader of the crate comes to on each way through it. Assumes nothing.
use Rattle.std.specs.Prelude.{⊤, Some, None, Ok, Err}
use Prim.Native.Nat.{ℕ, ◌+◌, ◌-◌, ◌≤◌, ◌<◌}
use mathlib.Core.Path.{◌≡◌, ap, ◌∙◌}
use mathlib.Core.List.{List}
use mathlib.Core.Bool.{true, false}
use native.Mathlib.Omega.{arith}
use lib.ListN.{length, take, drop, length-drop}
use lib.Seq.{drop-drop}
use borrow.Author.Tests.{lt-ltb, le-ltb}
use Rattle.text.specs.Find.{before}
use Rattle.text.specs.Word.{word, same, starts}
use Rattle.text.proofs.Cuts.{before_le, starts_long}
use Rattle.text.proofs.Left.{rest, rest_is}
use Rattle.mediarecord.specs.Records.{media_clock_ext}
use Rattle.mediarecord.specs.declared.MediaClockId.{MediaClockId}
use Rattle.mediarecord.specs.declared.MediaClockExt.{MediaClockExt}
use Rattle.mediarecord.specs.declared.MediaClock.TheVariants as clock
use Rattle.meaning.specs.Answer.{Answer, refuse, ◌>>=◌, extension_of, guarded}
use Rattle.meaning.specs.MediaClock.{direct_of, stream_of, extension_media_of, media_clock_of, id_of, tagged_of, with_clock, source_of, media_clock_source_of, read_media_clock_source}
use Rattle.meaning.proofs.Told.{made_twice}
use Rattle.guard.proofs.Laws.{guarded_behind, guard_short}
use Rattle.extension.specs.Parts.{extension_of_parts}
use Rattle.extension.specs.declared.Extension.{Extension}
use Rattle.extension.proofs.Laws.{extension_parts}

-- `read_extension`
pub extension_media : (at : ℕ) (s : List ℕ)
    → extension_media_of at s ≡ (extension_of extension_of_parts 22 at s >>= λ e. Ok (clock.Ext (media_clock_ext e.name e.value)))
extension_media at s =
    ap (λ (x : Answer MediaClockExt). x >>= λ e. Ok (clock.Ext e)) (extension_parts media_clock_ext 22 at s)
    ∙ made_twice (extension_of extension_of_parts 22 at s) (λ (e : Extension). media_clock_ext e.name e.value) clock.Ext

-- `read_stream_or_extension` and `read_media_clock`
pub direct_long : (s : List ℕ) → starts (word "direct") s ≡ true → 6 ≤ length s
direct_long s = starts_long (word "direct") s

pub stream_long : (s : List ℕ) → starts (word "IEEE1722=") s ≡ true → 9 ≤ length s
stream_long s = starts_long (word "IEEE1722=") s

module _ (at : ℕ) (s : List ℕ) where
  pub clock_sender : same s (word "sender") ≡ true → media_clock_of at s ≡ Ok clock.Sender
  unfolding media_clock_of
  clock_sender e = simp e

  module _ (e : same s (word "sender") ≡ false) where
    pub clock_direct : starts (word "direct") s ≡ true → media_clock_of at s ≡ (direct_of (at + 6) (rest 6 s) >>= λ d. Ok (clock.Direct d))
    unfolding media_clock_of
    clock_direct d = simp (e, d, rest_is 6 s)

    module _ (d : starts (word "direct") s ≡ false) where
      pub clock_stream : starts (word "IEEE1722=") s ≡ true
          → media_clock_of at s ≡ (stream_of (at + 9) (rest 9 s) >>= λ g. Ok (clock.Ieee1722StreamId g))
      unfolding media_clock_of
      clock_stream g = simp (e, d, g, rest_is 9 s)

      pub clock_extension : starts (word "IEEE1722=") s ≡ false → media_clock_of at s ≡ extension_media_of at s
      unfolding media_clock_of
      clock_extension g = simp (e, d, g)

-- `read_tagged`: the cut behind `id=`
module _ (s : List ℕ) (t : starts (word "id=") s ≡ true) where
  pub id_long : 3 ≤ length s
  id_long = starts_long (word "id=") s t

  cut : before 32 (rest 3 s) ≡ before 32 (drop 3 s)
  cut = ap (before 32) (rest_is 3 s)

  pub tagged_within : before 32 (rest 3 s) ≤ length s
  tagged_within = omega (arith, cut, before_le 32 (drop 3 s), length-drop 3 s)

  pub tagged_no_space : length s ≤ before 32 (rest 3 s) + 3 → source_of s ≡ refuse 12 (length s) 0
  unfolding source_of tagged_of
  tagged_no_space h =
      let k : 3 + length (drop 3 s) ≡ length s = omega (arith, length-drop 3 s, id_long) in
      simp (t, le-ltb (before 32 (drop 3 s)) (length (drop 3 s)) (omega (arith, cut, length-drop 3 s)), k)

  pub tagged_clock : (i : ℕ) → i ≡ before 32 (rest 3 s) → (x : Answer MediaClockId) → x ≡ id_of 3 (take (i + 3 - 3) (drop 3 s)) → i + 3 < length s
      → source_of s ≡ (x >>= λ d. with_clock (Some d) (media_clock_of (i + 3 + 1) (drop (i + 3 + 1) s)))
  unfolding source_of tagged_of
  tagged_clock i ei x ex h =
      let inside : i + 3 - 3 ≡ before 32 (drop 3 s) = omega (arith, cut, ei) in
      let behind : i + 3 + 1 ≡ 3 + (before 32 (drop 3 s) + 1) = omega (arith, cut, ei) in
      simp (t, lt-ltb (before 32 (drop 3 s)) (length (drop 3 s)) (omega (arith, cut, ei, length-drop 3 s)), drop-drop (before 32 (drop 3 s) + 1) 3 s)
      (rw (ex, inside, behind))

-- `read_front` and `read_source`
pub front_bare : (s : List ℕ) → starts (word "id=") s ≡ false → source_of s ≡ with_clock None (media_clock_of 0 s)
unfolding source_of
front_bare s e = simp e

pub behind_is : (k : ℕ) (s : List ℕ) → media_clock_of k (rest k s) ≡ media_clock_of k (drop k s)
behind_is k s = ap (media_clock_of k) (rest_is k s)

pub rest_length : (k : ℕ) (s : List ℕ) → length (rest k s) ≡ length s - k
rest_length k s = ap length (rest_is k s) ∙ length-drop k s

-- `read_media_clock_source`
pub whole : (s : List ℕ) → read_media_clock_source s ≡ (guarded {A = ⊤} s (Ok tt) >>= λ u. source_of s)
unfolding read_media_clock_source media_clock_source_of
whole s = guarded_behind s (source_of s)

pub ruleset laws = (
  extension_media,
  direct_long,
  stream_long,
  clock_sender,
  clock_direct,
  clock_stream,
  clock_extension,
  id_long,
  tagged_within,
  tagged_no_space,
  front_bare,
  behind_is,
  rest_length,
  whole,
  guard_short,
)
