-- No line and no stream is lost: the sum of a roll, from that of its census. Assumes nothing.
use Rattle.std.specs.Prelude.{Result, ⊤, Ok, Err, Option, Some, None}
use Prim.Native.Nat.{ℕ, ◌+◌, ◌≤◌, min}
use mathlib.Core.Path.{◌≡◌, refl, sym, ap, ◌∙◌}
use mathlib.Core.List.{List, [], ◌∷◌}
use native.Mathlib.Omega.{arith}
use lib.ListN.{length}
use Rattle.streams.specs.Limits.{limits, most_streams}
use Rattle.streams.specs.Rule.{Rule}
use Rattle.streams.specs.Streams.{Streams}
use Rattle.streams.specs.Calls.{count, after, counted_by}
use Rattle.naming.specs.ClockRule.{ClockRule}
use Rattle.naming.proofs.ClockRule.{there_is}
use Rattle.slots.specs.Slot.{stream_sum}
use Rattle.counts.specs.State.{used_in, plus}
use Rattle.counts.specs.declared.Called.{Called}
use Rattle.kept.specs.Kept.{Calls}
use Rattle.kept.specs.Kept as kept
use Rattle.kept.proofs.Kept.{sum_stays}
use Rattle.roll.specs.declared.Roll.{Roll}
use Rattle.roll.specs.Taking.{stream_of, fresh_roll, uncounted_by, with_line, with_stream, TakesStream, Takes, TakesLine}
use Rattle.roll.specs.Whole.{Rolled, fresh, more, is_stream, streams_in, NoneLost, RollSum}
use Rattle.streams.specs.declared.Uncounted.{Uncounted}

abbrev R : Rule
R = there_is.rule

-- the calls that were made, and how many were counted
record Kept (r : Roll) (m : List ℕ) (ls : List (List ℕ)) : Type 0 where
  counted : ℕ
  list : Streams
  calls : Calls R r.census m counted 0 list
  lines : r.lines ≡ length ls
  streams : r.streams ≡ streams_in ls
  parts : r.streams ≡ counted + r.uncounted

-- a stream is counted or is not
one_of_two : (v : List ℕ) (a : Result ⊤ Uncounted) → counted_by (count v) a + uncounted_by a ≡ 1
one_of_two v (Ok tt) = refl
one_of_two v (Err why) = refl

streams_most : (ls : List (List ℕ)) → streams_in ls ≤ length ls
unfolding streams_in
streams_most [] = omega arith
streams_most (l ∷ ls) = omega (arith, streams_most ls, at_most (stream_of l))
  where
    at_most : (o : Option (List ℕ)) → is_stream o ≤ 1
    at_most None = omega arith
    at_most (Some v) = omega arith

fresh_kept : (m : List ℕ) → Kept fresh_roll m []
unfolding fresh_roll streams_in
fresh_kept m = record { counted = 0; list = []; calls = kept.fresh m; lines = refl; streams = refl; parts = refl }

module _ (r : Roll) (m : List ℕ) (ls : List (List ℕ)) (l : List ℕ) (r' : Roll) (m' : List ℕ) (K : Kept r m ls) (small : length ls + 1 ≤ most_streams) where
  line_kept : (o : Option (List ℕ)) → stream_of l ≡ o → Takes r m o r' m' → Kept r' m' (l ∷ ls)
  unfolding streams_in
  line_kept None e t =
      rw (t.0, t.1)
      (record {
        counted = K.counted;
        list = K.list;
        calls = K.calls;
        lines = omega (arith, K.lines);
        streams = simp e (omega (arith, K.streams));
        parts = K.parts;
      })
  line_kept (Some v) e t =
      let q = t.called in
      let one = one_of_two v q.verdict in
      let most = streams_most ls in
      rw t.is
      (record {
        counted = K.counted + counted_by (count v) q.verdict;
        list = after R limits (length m) (count v) K.list;
        calls = kept.more r.census m K.counted 0 K.list (count v) q m' K.calls t.counts;
        lines = omega (arith, K.lines);
        streams = simp e (omega (arith, K.streams));
        parts = omega (arith, K.parts, K.streams);
      })

rolled_kept : {r : Roll} {m : List ℕ} {ls : List (List ℕ)} → Rolled r m ls → length ls ≤ most_streams → Kept r m ls
rolled_kept (fresh m) h = fresh_kept m
rolled_kept (more r m ls l r' m' before t) h =
    line_kept r m ls l r' m' (rolled_kept before (omega arith)) (omega arith) (stream_of l) refl t.takes

pub roll_sum : RollSum
roll_sum r m ls rolled h =
    let K = rolled_kept rolled h in
    let s = sum_stays R there_is.meets r.census m K.counted 0 K.list K.calls in
    record { lines = K.lines; streams = K.streams; parts = omega (arith, K.parts, s) }
