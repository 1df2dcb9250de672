-- What each reader of the crate comes to on each way through it. Assumes nothing.
use Rattle.std.specs.Prelude.{Some, None, Ok}
use Prim.Native.Nat.{ℕ, ◌+◌, ◌≤◌, ◌<◌}
use mathlib.Core.Path.{◌≡◌, refl}
use mathlib.Core.List.{List}
use mathlib.Core.Bool.{true, false, cond}
use native.Mathlib.Omega.{arith}
use lib.Dec.{eqb}
use lib.ListN.{length, take, drop, drop_of_length-le}
use lib.Seq.{take_all}
use borrow.Author.Tests.{lt-ltb, le-ltb}
use Rattle.text.specs.Find.{before}
use Rattle.text.specs.Word.{word, starts}
use Rattle.text.proofs.Cuts.{starts_long}
use Rattle.mediarecord.specs.Records.{rate, direct}
use Rattle.meaning.specs.Answer.{refuse, ◌>>=◌, number_at, empty}
use Rattle.meaning.specs.MediaClock.{most32, denominator_of, ratio_of, rate_of, offset_of, direct_of}

module _ (at : ℕ) (s : List ℕ) where
  -- `read_denominator`
  pub denominator_is : denominator_of at s ≡ (number_at most32 18 at s >>= λ n. cond (eqb n 0) (refuse 18 at (length s)) (Ok n))
  unfolding denominator_of
  denominator_is = refl

  -- `read_ratio`
  pub ratio_no_slash : length s ≤ before 47 s → ratio_of at s ≡ refuse 16 at (length s)
  unfolding ratio_of
  ratio_no_slash h = simp (le-ltb _ _ h)

  pub ratio_parts : before 47 s < length s → ratio_of at s
      ≡ (number_at most32 17 at (take (before 47 s) s) >>= λ n.
      denominator_of (at + (before 47 s + 1)) (drop (before 47 s + 1) s) >>= λ d. Ok (Some (rate n d)))
  unfolding ratio_of
  ratio_parts h = simp (lt-ltb _ _ h)

  -- `read_rate`
  pub rate_none : empty s ≡ true → rate_of at s ≡ Ok None
  unfolding rate_of
  rate_none h = simp h

  module _ (h : empty s ≡ false) where
    pub rate_ratio : starts (word "rate=") s ≡ true → rate_of at s ≡ ratio_of (at + 5) (drop 5 s)
    unfolding rate_of
    rate_ratio e = simp (h, e)

    pub rate_other : starts (word "rate=") s ≡ false → rate_of at s ≡ refuse 15 at (length s)
    unfolding rate_of
    rate_other e = simp (h, e)

  -- `read_offset`
  pub offset_alone : length s ≤ before 32 s → offset_of at s ≡ (number_at most32 14 at s >>= λ n. Ok (direct (Some n) None))
  unfolding offset_of rate_of
  offset_alone h = let k : length s ≤ before 32 s + 1 = omega arith in simp (take_all (before 32 s) s h, drop_of_length-le s k)

  pub offset_parts : before 32 s < length s → offset_of at s
      ≡ (number_at most32 14 at (take (before 32 s) s) >>= λ n.
      rate_of (at + (before 32 s + 1)) (drop (before 32 s + 1) s) >>= λ r. Ok (direct (Some n) r))
  unfolding offset_of
  offset_parts h = refl

  -- `read_direct`
  pub direct_none : empty s ≡ true → direct_of at s ≡ Ok (direct None None)
  unfolding direct_of
  direct_none h = simp h

  module _ (h : empty s ≡ false) where
    pub direct_offset : starts (word "=") s ≡ true → direct_of at s ≡ offset_of (at + 1) (drop 1 s)
    unfolding direct_of
    direct_offset e = simp (h, e)

    module _ (e : starts (word "=") s ≡ false) where
      pub direct_rate : starts (word " ") s ≡ true → direct_of at s ≡ (rate_of (at + 1) (drop 1 s) >>= λ r. Ok (direct None r))
      unfolding direct_of
      direct_rate f = simp (h, e, f)

      pub direct_other : starts (word " ") s ≡ false → direct_of at s ≡ refuse 15 at (length s)
      unfolding direct_of
      direct_other f = simp (h, e, f)

pub ruleset laws = (
  denominator_is,
  ratio_no_slash,
  ratio_parts,
  rate_none,
  rate_ratio,
  rate_other,
  offset_alone,
  offset_parts,
  direct_none,
  direct_offset,
  direct_rate,
  direct_other,
)
