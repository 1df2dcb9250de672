-- One law for each way out of the two writers. Assumes nothing.
use Rattle.std.specs.Prelude.{Result, Ok, Err}
use Prim.Native.Nat.{ℕ, ◌-◌, ◌≤◌, ◌<◌}
use mathlib.Core.Path.{◌≡◌, refl, sym, ap, ◌∙◌}
use mathlib.Core.List.{List}
use mathlib.Core.Bool.{Bool, true, false, not}
use native.Mathlib.Omega.{arith}
use lib.ListN.{length}
use borrow.Author.Tests.{lt-ltb, le-ltb, not-true, not-false}
use Rattle.clock.specs.declared.Refusal.{Refusal}
use Rattle.clock.specs.declared.WriteRefusal.TheVariants as refused
use Rattle.clock.specs.Refusal.{refusal}
use Rattle.meaning.specs.Written.{wrote_of, room_after}
use Rattle.room.specs.Put.{Put}
use Rattle.room.proofs.Laws.{put_length, put_front}
use Rattle.writing.specs.Writes.{Writes}
use Rattle.clock.specs.declared.WriteRefusal.{WriteRefusal}

module _ (v : List ℕ) (inside : Bool) (t room : List ℕ) where
  -- what is left to show of an answer
  answered : {a : (Result ℕ WriteRefusal)} {after : List ℕ} → wrote_of v inside t (length room) ≡ a → after ≡ room_after a t room → Writes v inside t room a after
  answered e f =
      record {
        says = sym e;
        leaves = f ∙ ap (λ (x : Result ℕ WriteRefusal). room_after x t room) (sym e);
      }

  pub write_long : (x : Refusal) → 1024 < length v → x ≡ refusal 1 1024 (length v - 1024)
      → Writes v inside t room (Err (refused.Value x)) room
  unfolding wrote_of room_after
  write_long x h e = answered (simp (lt-ltb 1024 (length v) h, e)) refl

  -- the value is short, and b says whether the places lie inside
  module _ (short : length v ≤ 1024) (b : Bool) (is : b ≡ inside) where
    pub write_outside : not b ≡ true → Writes v inside t room (Err refused.Outside) room
    unfolding wrote_of room_after
    write_outside f = answered (simp (le-ltb 1024 (length v) short, ← is, not-true b f)) refl

    module _ (f : not b ≡ false) where
      pub write_short : (n : ℕ) → n ≡ length t → length room < n → Writes v inside t room (Err (refused.Room n)) room
      unfolding wrote_of room_after
      write_short n e h =
          answered
          (simp (le-ltb 1024 (length v) short, ← is, not-false b f, lt-ltb (length room) (length t) (omega (arith, e)), e))
          refl

      -- measured, and put into a room that is long enough; or put where the bound says that it is
      pub write_measured : (k n r : ℕ) (after : List ℕ) → n ≡ length t → n ≤ length room → Put k room 0 t r after
          → Writes v inside t room (Ok n) after
      unfolding wrote_of room_after
      write_measured k n r after e h p =
          answered
          (simp (le-ltb 1024 (length v) short, ← is, not-false b f, le-ltb (length room) (length t) (omega (arith, e)), e))
          (put_front p (omega (arith, e)) ∙ rw e)

      pub write_bounded : (k n : ℕ) (after : List ℕ) → k ≤ length room → Put k room 0 t n after → Writes v inside t room (Ok n) after
      write_bounded k n after h p = write_measured k n n after (put_length p (omega (arith, p.reach))) (omega (arith, p.place, p.bound)) p

pub ruleset laws = (
  write_long,
  write_outside,
  write_short,
  write_measured,
  write_bounded,
)
