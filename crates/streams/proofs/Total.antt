-- The sum: a list of streams grows by each call that is answered "counted", and shrinks by each that is answered "withdrawn". Assumes nothing.
use Rattle.std.specs.Prelude.{Result, ⊤, Ok, Err}
use Prim.Native.Nat.{ℕ, ◌+◌, ◌<◌}
use mathlib.Core.Path.{◌≡◌, refl}
use native.Mathlib.Omega.{arith}
use lib.Dec.{ltb}
use lib.ListN.{length}
use borrow.Author.Tests.{ltb-true}
use Rattle.text.proofs.Bools.{by_bool, clash}
use Rattle.streams.specs.Rule.{Value, Rule}
use Rattle.streams.specs.Streams.{Streams, number_of, like, moved, joined}
use Rattle.streams.specs.Limits.{Limits}
use Rattle.streams.specs.Total.{ListSum, ListParts}
use Rattle.streams.specs.Calls.{Call, count, withdraw, join, first_of, reasons, answer, next, after, counted_by, withdrawn_by}
use Rattle.streams.proofs.Lists.{number_split, length_without, length_map}
use Rattle.streams.specs.declared.Uncounted.{Uncounted}

module _ (R : Rule) (L : Limits) (n : ℕ) where
  length_joined : (v w : Value) (l : Streams) → length (joined R v w l) ≡ length l
  unfolding joined
  length_joined v w l = by_bool (R.same v w) (λ e. simp e) (λ e. simp e (length_map (moved R v w) l))

  -- what is withdrawn was there
  there : (v : Value) (l : Streams) → answer R L n (withdraw v) l ≡ (Ok tt) → 0 < number_of (like R v) l
  unfolding answer reasons first_of
  there v l e =
      by_bool (ltb n L.memory)
      (λ t. clash (cc (simp t at e)))
      (λ t.
      by_bool (ltb 0 (number_of (like R v) l))
      (λ y. ltb-true 0 (number_of (like R v) l) y)
      (λ y. clash (cc (simp (t, y) at e))))

  sum_law : (k : Call) (l : Streams) → length (after R L n k l) + withdrawn_by k (answer R L n k l) ≡ length l + counted_by k (answer R L n k l)
  unfolding after next
  sum_law k l = go (answer R L n k l) refl
    where
      go : (x : Result ⊤ Uncounted) → answer R L n k l ≡ x → length (after R L n k l) + withdrawn_by k (answer R L n k l) ≡ length l + counted_by k (answer R L n k l)
      go (Err why) e = simp e (same k)
        where
          same : (k : Call) → length l + withdrawn_by k (Err why) ≡ length l + counted_by k (Err why)
          same (count v) = refl
          same (withdraw v) = refl
          same (join v w) = refl
      go (Ok tt) e = simp e (done k e)
        where
          done : (k : Call) → answer R L n k l ≡ (Ok tt) → length (next R L k l) + withdrawn_by k (Ok tt) ≡ length l + counted_by k (Ok tt)
          done (count v) e = omega arith
          done (withdraw v) e = omega (arith, length_without (like R v) l (there v l e))
          done (join v w) e = omega (arith, length_joined v w l)

pub list_sum : ListSum
list_sum R L n k l = sum_law R L n k l

pub list_parts : ListParts
list_parts R l = number_split R.accepted l
