-- What is printed of a roll: a line for each clock in the order of the slots, a line for each domain number that has streams, and the totals.
use Rattle.std.specs.Prelude.{ℕ, zero, suc, List, [], ◌∷◌, ◌++◌, cond, eqb, Result, Ok, Err}
use Rattle.text.specs.Word.{word}
use Rattle.number.specs.Decimal.{decimal}
use Rattle.meaning.specs.ReferenceClock.{read_reference_clock}
use Rattle.meaning.specs.Text.{reference_clock_text}
use Rattle.slots.specs.Slot.{streams_at, value_at, taken_slots, stream_sum}
use Rattle.counts.specs.State.{used_in, domain_count}
use Rattle.counts.specs.declared.Census.{Census}
use Rattle.roll.specs.declared.Roll.{Roll}
use Rattle.clock.specs.declared.ReferenceClock.{ReferenceClock}
use Rattle.clock.specs.declared.Refusal.{Refusal}

-- n texts one behind another: f 0, f 1 and so on
unfoldable pub in_turn : ℕ → (ℕ → List ℕ) → List ℕ
in_turn zero f = []
in_turn (suc n) f = in_turn n f ++ f n

-- a count, a text and LF
unfoldable pub counted_text : ℕ → List ℕ → List ℕ
counted_text n t = decimal n ++ 32 ∷ [] ++ t ++ 10 ∷ []

-- n streams of the clock that the value v names, by its written text; nothing of a refused value
abbrev pub clock_text : ℕ → List ℕ → Result ReferenceClock Refusal → List ℕ
clock_text n v (Ok c) = counted_text n (reference_clock_text v c)
clock_text n v (Err r) = []

-- the line of the slot i of the memory m; a free slot has none
unfoldable pub clock_line : List ℕ → ℕ → List ℕ
clock_line m i = cond (eqb (streams_at m i) 0) [] (clock_text (streams_at m i) (value_at m i) (read_reference_clock (value_at m i)))

-- n streams whose clocks have the domain number d
unfoldable pub domain_text : ℕ → ℕ → List ℕ
domain_text d n = word "domain " ++ decimal d ++ word " " ++ decimal n ++ 10 ∷ []

-- the line of the domain number d; one without streams has none
unfoldable pub domain_line : Census → ℕ → List ℕ
domain_line c d = cond (eqb (domain_count c d) 0) [] (domain_text d (domain_count c d))

-- the lines of the clocks, and then those of the domain numbers
unfoldable pub counts_text : Census → List ℕ → List ℕ
counts_text c m = in_turn (used_in c) (clock_line m) ++ in_turn 128 (domain_line c)

-- the line of the totals
unfoldable pub totals_text : ℕ → ℕ → ℕ → ℕ → ℕ → ℕ → List ℕ
totals_text lines streams clocks counted refused uncounted =
    word "lines " ++ decimal lines ++ word " streams " ++ decimal streams ++ word " clocks " ++ decimal clocks
    ++ word " counted " ++ decimal counted ++ word " refused " ++ decimal refused ++ word " uncounted " ++ decimal uncounted ++ 10 ∷ []

unfoldable pub totals_line : Roll → List ℕ → List ℕ
totals_line r m =
    let used = used_in r.census in
    totals_text r.lines r.streams (taken_slots m used) (stream_sum m used) r.census.refused r.uncounted

-- all that is printed
unfoldable pub roll_text : Roll → List ℕ → List ℕ
roll_text r m = counts_text r.census m ++ totals_line r m

-- what is said where n streams could not be counted
unfoldable pub warning_text : ℕ → List ℕ
warning_text n = cond (eqb n 0) [] (word "streams not counted: " ++ decimal n ++ word ", as there are more than 255 clocks\n")
