-- The statements of `specs/Owed.antt`, proved: an outcome and the number that is owed tell one another. Assumes nothing.
use Rattle.std.specs.Prelude.{Result, Ok, Err, Option, Some, None}
use Prim.Native.Nat.{ℕ, ◌+◌}
use mathlib.Core.Path.{◌≡◌, refl, ap}
use mathlib.Core.List.{List}
use mathlib.Core.Bool.{true, false, cond}
use lib.Dec.{leb, ltb}
use lib.ListN.{length}
use borrow.Author.Tests.{le-ltb, lt-ltb, leb-true, leb-false}
use Rattle.text.proofs.Bools.{by_bool, clash}
use Rattle.report.specs.Reader.{Reader, feed_text, close_text}
use Rattle.lines.specs.declared.State.{State}
use Rattle.lines.specs.declared.Fed.{Fed}
use Rattle.lines.specs.declared.Unfed.{Unfed}
use Rattle.lines.specs.declared.Unfed.TheVariants.{Closed, OverLimit, NoRoom}
use Rattle.lines.specs.View.{view}
use Rattle.lines.specs.Call.{Outcome, prints, refuses, feed_outcome, close_outcome, accepts, filling_of, room_of, Does}
use Rattle.lines.specs.Number.{unfed_number, number_in, first_of, owed_number}
use Rattle.lines.specs.Owed.{against_feeding, against_closing, DoesAsOwed, FeedingIsOwed, ClosingIsOwed}
use Rattle.lines.proofs.Number.{value_of, numbers_apart}

-- an outcome in n bytes of room beside the number that is owed then, where t is what there would be to print
data Tells (t : List ℕ) (n : ℕ) : Outcome → Option ℕ → Type 0 where
  refused : (why : Unfed) → Tells t n (refuses why) (Some (unfed_number why))
  short : leb (length t) n ≡ false → Tells t n (prints t) (Some (unfed_number NoRoom))
  done : leb (length t) n ≡ true → Tells t n (prints t) None

-- where no reason comes before it, the room decides
in_room : (t : List ℕ) (n : ℕ) → Tells t n (prints t) (cond (ltb n (length t)) (Some (unfed_number NoRoom)) None)
in_room t n =
    by_bool (leb (length t) n) (λ f. simp (le-ltb n (length t) (leb-true (length t) n f)) (done f))
    (λ f. simp (lt-ltb n (length t) (leb-false (length t) n f)) (short f))

feed_tells : (r : Reader) (s : List ℕ) (n : ℕ) → Tells (feed_text r s) n (feed_outcome r s) (owed_number (against_feeding r s n))
unfolding feed_outcome first_of against_feeding
feed_tells r s n =
    by_bool r.closed (λ c. simp c (refused Closed))
    (λ c.
    by_bool (ltb 4294967295 (r.read + length s)) (λ l. simp (c, l) (refused OverLimit))
    (λ l. simp (c, l) (in_room (feed_text r s) n)))

close_tells : (r : Reader) (n : ℕ) → Tells (close_text r) n (close_outcome r) (owed_number (against_closing r n))
unfolding close_outcome first_of against_closing
close_tells r n = by_bool r.closed (λ c. simp c (refused Closed)) (λ c. simp c (in_room (close_text r) n))

-- a refusal's number tells the refusal
refused_as : (x : Result ℕ Unfed) (why : Unfed) → number_in x ≡ Some (unfed_number why) → x ≡ Err why
refused_as (Ok n) why e = clash (cc)
refused_as (Err other) why e = ap Err (numbers_apart other why (ap value_of e))

module _ {t : List ℕ} {next : Reader} {kept : List ℕ} {state : State} {memory room : List ℕ} {r : Fed} {memory₁ room₁ : List ℕ} where
  to_owed : {o : Outcome} {k : Option ℕ} → Tells t (length room) o k → Does o next kept state memory room r memory₁ room₁
      → DoesAsOwed t k next kept state memory room r memory₁ room₁
  unfolding filling_of room_of accepts
  to_owed (refused why) d =
      record { number = ap number_in d.filling; filled = λ h. clash (cc); room = d.room; memory = d.memory; state = d.state; reader = d.reader }
  to_owed (short f) d =
      record {
        number = ap number_in (simp f at d.filling);
        filled = λ h. clash (cc);
        room = simp f at d.room;
        memory = simp f at d.memory;
        state = simp f at d.state;
        reader = simp f at d.reader;
      }
  to_owed (done f) d =
      record {
        number = ap number_in (simp f at d.filling);
        filled = λ h. simp f at d.filling;
        room = simp f at d.room;
        memory = simp f at d.memory;
        state = simp f at d.state;
        reader = simp f at d.reader;
      }

  from_owed : {o : Outcome} {k : Option ℕ} → Tells t (length room) o k → DoesAsOwed t k next kept state memory room r memory₁ room₁
      → Does o next kept state memory room r memory₁ room₁
  unfolding filling_of room_of accepts
  from_owed (refused why) d =
      record { filling = refused_as r.filling why d.number; room = d.room; memory = d.memory; state = d.state; reader = d.reader }
  from_owed (short f) d =
      record {
        filling = simp f (refused_as r.filling NoRoom d.number);
        room = simp f d.room;
        memory = simp f d.memory;
        state = simp f d.state;
        reader = simp f d.reader;
      }
  from_owed (done f) d =
      record { filling = simp f (d.filled refl); room = simp f d.room; memory = simp f d.memory; state = simp f d.state; reader = simp f d.reader }

pub feeding_is_owed : FeedingIsOwed
feeding_is_owed state memory s room r memory₁ room₁ =
    let k = feed_tells (view state memory) s (length room) in
    (to_owed k, from_owed k)

pub closing_is_owed : ClosingIsOwed
closing_is_owed state memory room r room₁ =
    let k = close_tells (view state memory) (length room) in
    (to_owed k, from_owed k)
