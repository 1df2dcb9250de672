-- Demand 1 holds: of every value the guard answers first, and of every writing the number and the room are as owed. Assumes nothing.
use Rattle.std.specs.Prelude.{Result, Ok, Err}
use Prim.Native.Nat.{ℕ, ◌≤◌}
use mathlib.Core.Path.{◌≡◌, refl, ap}
use mathlib.Core.List.{List}
use mathlib.Core.Bool.{Bool, false, not}
use native.Mathlib.Omega.{arith}
use lib.Dec.{ltb}
use lib.ListN.{length, drop, length-append, length-drop}
use lib.Seq.{take_at, drop_at}
use borrow.Author.Tests.{lt-ltb, le-ltb, ltb-false}
use Rattle.text.proofs.Bools.{by_bool, clash}
use Rattle.abnf.specs.Rule.{longest}
use Rattle.utf8.specs.Utf8.{utf8_octets, utf8_of}
use Rattle.utf8.proofs.Text.{octets_well}
use Rattle.clock.specs.declared.Refusal.{Refusal}
use Rattle.clock.specs.declared.WriteRefusal.{WriteRefusal}
use Rattle.meaning.specs.Answer.{Answer, refuse, most_bytes, guarded}
use Rattle.meaning.specs.Domain.{bare}
use Rattle.meaning.specs.ReferenceClock.{clock_of, reference_clock_of, read_reference_clock}
use Rattle.meaning.specs.MediaClock.{source_of, media_clock_source_of, read_media_clock_source}
use Rattle.meaning.specs.Written.{wrote_of, room_after}
use Rattle.meaning.specs.Demand1.{Answered, RefAnswered, MediaAnswered, RoomLeft, WritingNumbered, WritingLeaves}
use Rattle.meaning.proofs.Told.{guarded_well, guarded_long}

-- reading: the guard
module _ {A : Type 0} (v : List ℕ) (x : Answer A) where
  guard_ill : length v ≤ 1024 → utf8_octets v ≡ false → guarded v x ≡ refuse 2 (longest utf8_octets v) 1
  unfolding guarded utf8_of
  guard_ill h e = simp (le-ltb most_bytes (length v) h, e)

  guard_answered : Answered v x (guarded v x)
  guard_answered =
      record {
        long = λ h. record { refusal = _; is = guarded_long v x h; number = refl; from = refl; to = omega arith };
        ill = λ h e. record { refusal = _; is = guard_ill h e; number = refl; from = refl; to = refl };
        well = λ h e. guarded_well v x h (octets_well v e);
      }

pub ref_answered : RefAnswered
unfolding read_reference_clock reference_clock_of
ref_answered v = guard_answered v (clock_of bare v)

pub media_answered : MediaAnswered
unfolding read_media_clock_source media_clock_source_of
media_answered v = guard_answered v (source_of v)

-- writing
pub writing_numbered : WritingNumbered
unfolding wrote_of
writing_numbered v inside t n =
    record {
      long = λ h. simp (lt-ltb most_bytes (length v) h);
      outside = λ h e. simp (le-ltb most_bytes (length v) h, e);
      short = λ h e k. simp (le-ltb most_bytes (length v) h, e, lt-ltb n (length t) k);
      written = λ h e k. simp (le-ltb most_bytes (length v) h, e, le-ltb n (length t) k);
    }

-- an answer is a refusal, or the length of a text that fits
data WroteIs (t : List ℕ) (n : ℕ) : Result ℕ WriteRefusal → Type 0 where
  not_written : (r : WriteRefusal) → WroteIs t n (Err r)
  fits : length t ≤ n → WroteIs t n (Ok (length t))

wrote_is : (v : List ℕ) (inside : Bool) (t : List ℕ) (n : ℕ) → WroteIs t n (wrote_of v inside t n)
unfolding wrote_of
wrote_is v inside t n =
    by_bool (ltb most_bytes (length v)) (λ e. simp e (not_written _))
    (λ e. by_bool (not inside) (λ f. simp (e, f) (not_written _))
    (λ f. by_bool (ltb n (length t)) (λ g. simp (e, f, g) (not_written _)) (λ g. simp (e, f, g) (fits (ltb-false n (length t) g)))))

room_left : (t room : List ℕ) (a : Result ℕ WriteRefusal) → WroteIs t (length room) a → RoomLeft t room a (room_after a t room)
unfolding room_after
room_left t room a (not_written r) =
    record { kept = λ k e. refl; said = λ e. clash (cc); text = λ e. clash (cc); behind = λ e. clash (cc); size = refl }
room_left t room a (fits h) =
    record {
      kept = λ k e. clash (cc);
      said = λ e. refl;
      text = λ e. take_at t (drop (length t) room) (length t) refl;
      behind = λ e. drop_at t (drop (length t) room) (length t) refl;
      size = omega (arith, length-append t (drop (length t) room), length-drop (length t) room);
    }

pub writing_leaves : WritingLeaves
writing_leaves v inside t room = room_left t room (wrote_of v inside t (length room)) (wrote_is v inside t (length room))
