-- Writing succeeds where the value is short, the places lie inside it and the text fits the room; what is then written is the text.
-- Assumes nothing.
use Rattle.std.specs.Prelude.{Ok}
use Prim.Native.Nat.{ℕ, ◌≤◌}
use mathlib.Core.Path.{◌≡◌, refl}
use mathlib.Core.List.{List}
use mathlib.Core.Bool.{Bool, true}
use lib.ListN.{length, drop}
use lib.Seq.{take_at}
use borrow.Author.Tests.{le-ltb}
use Rattle.meaning.specs.Answer.{most_bytes}
use Rattle.meaning.specs.Written.{wrote_of, room_after, front}

module _ (v : List ℕ) (inside : Bool) (t room : List ℕ) (short : length v ≤ 1024) (within : inside ≡ true) (fits : length t ≤ length room) where
  pub wrote_length : wrote_of v inside t (length room) ≡ Ok (length t)
  unfolding wrote_of
  wrote_length = simp (le-ltb most_bytes (length v) short, within, le-ltb (length room) (length t) fits)

  pub wrote_text : front (wrote_of v inside t (length room)) (room_after (wrote_of v inside t (length room)) t room) ≡ t
  unfolding front room_after
  wrote_text = rw wrote_length (take_at t (drop (length t) room) (length t) refl)
