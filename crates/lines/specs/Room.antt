-- How much room is always enough. `proofs/Room.antt` proves both statements.
use Rattle.std.specs.Prelude.{ℕ, ◌+◌, ◌*◌, ◌^◌, ◌≤◌, ◌<◌, ◌≡◌, List, false, length}
use Rattle.report.specs.Reader.{Reader}
use Rattle.report.specs.declared.Totals.{Totals}
use Rattle.lines.specs.declared.Unfed.TheVariants.{NoRoom}
use Rattle.lines.specs.Owed.{against_feeding, against_closing}

-- for a fragment six bytes for each of its bytes and of the open line's
abbrev pub FeedingHasRoom : Type 0
FeedingHasRoom = (r : Reader) (s : List ℕ) (n : ℕ) → 6 * (length r.begun + length s) ≤ n → against_feeding r s n NoRoom ≡ false

-- the totals have 32 bits each, as those of every state
pub record In32Bits (t : Totals) : Type 0 where
  pub lines : t.lines < 2 ^ 32
  pub ok : t.ok < 2 ^ 32
  pub no : t.no < 2 ^ 32
  pub other : t.other < 2 ^ 32
  pub long : t.long < 2 ^ 32

-- for the closing call six bytes for each of the open line's, and 84 more
abbrev pub ClosingHasRoom : Type 0
ClosingHasRoom = (r : Reader) (n : ℕ) → In32Bits r.totals → 6 * length r.begun + 84 ≤ n → against_closing r n NoRoom ≡ false
