-- One law for each way out of this crate's functions. Assumes nothing.
use Prim.Native.Nat.{ℕ, ◌≤◌, ◌<◌}
use mathlib.Core.Path.{◌≡◌, refl, sym, ◌∙◌}
use mathlib.Core.List.{List}
use mathlib.Core.Bool.{Bool, true, false}
use native.Mathlib.Omega.{arith}
use lib.ListN.{length}
use borrow.Author.Tests.{lt-ltb, le-ltb}
use Rattle.text.specs.Word.{word, starts}
use Rattle.text.proofs.Cuts.{starts_long}
use Rattle.text.proofs.Left.{rest, rest_is}
use Rattle.counts.specs.State.{fresh_census, plus}
use Rattle.counts.specs.declared.Census.{Census}
use Rattle.counts.specs.declared.Called.{Called}
use Rattle.counting.specs.Counting.{Counts}
use Rattle.roll.specs.declared.Roll.{Roll}
use Rattle.roll.specs.Taking.{stream_of, roll, fresh_roll, with_line, uncounted_by, TakesStream, TakesLine}

-- `start`
pub fresh_is : (c : Census) → c ≡ fresh_census → roll c 0 0 0 ≡ fresh_roll
unfolding fresh_roll
fresh_is c e = rw e refl

-- `take_stream`
pub stream_taken : (r : Roll) (m v : List ℕ) (q : Called) (m' : List ℕ) → Counts r.census m v q m'
    → (l s n u : ℕ) → l ≡ plus r.lines 1 → s ≡ plus r.streams 1 → n ≡ uncounted_by q.verdict → u ≡ plus r.uncounted n
    → TakesStream r m v (roll q.census l s u) m'
stream_taken r m v q m' k l s n u el es en eu = record { called = q; counts = k; is = cc (el, es, eu, en) }

-- `take_line`
module _ (r r' : Roll) (m l : List ℕ) where
  pub line_long : (most : ℕ) → 4096 ≤ most → most < length l → r' ≡ with_line r → TakesLine r m l r' m
  unfolding stream_of
  line_long most k h e = record { takes = simp (lt-ltb 4096 (length l) (omega arith)) (e, refl) }

  module _ (h : length l ≤ 4096) (s : Bool) (es : s ≡ starts (word "a=ts-refclk:") l) where
    pub line_stream : (m' : List ℕ) → s ≡ true → TakesStream r m (rest 12 l) r' m' → TakesLine r m l r' m'
    unfolding stream_of
    line_stream m' e t = record { takes = simp (le-ltb 4096 (length l) h, ← es, e) (rw rest_is at t) }

    pub line_other : s ≡ false → r' ≡ with_line r → TakesLine r m l r' m
    unfolding stream_of
    line_other e q = record { takes = simp (le-ltb 4096 (length l) h, ← es, e) (q, refl) }

pub stream_long : (l : List ℕ) (s : Bool) → s ≡ true → s ≡ starts (word "a=ts-refclk:") l → 12 ≤ length l
stream_long l s e es = starts_long (word "a=ts-refclk:") l (sym es ∙ e)

pub ruleset laws = (fresh_is, stream_taken, line_long, line_stream, line_other, stream_long)
