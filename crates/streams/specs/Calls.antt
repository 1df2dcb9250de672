-- The calls on a plain list of streams: what each answers, and the list then.
use Rattle.std.specs.Prelude.{ℕ, List, [], ◌∷◌, Bool, true, false, cond, not, ◌&&◌, ◌||◌, ltb, leb, length, Result, ⊤, Ok, Err}
use Rattle.streams.specs.Limits.{Limits}
use Rattle.streams.specs.Rule.{Value, Rule}
use Rattle.streams.specs.Streams.{Streams, number_of, without, of_clock, clocks_in, like, joined}
use Rattle.streams.specs.declared.Uncounted.{Uncounted}
use Rattle.streams.specs.declared.Uncounted.TheVariants.{NoMemory, TotalFull, ClocksFull, NoStream}

-- the number of a refusal in the rules
unfoldable pub refusal_number : Uncounted → ℕ
refusal_number NoMemory = 24
refusal_number ClocksFull = 25
refusal_number TotalFull = 26
refusal_number NoStream = 27

pub data Call : Type 0 where
  count : Value → Call
  withdraw : Value → Call
  join : Value → Value → Call

-- of reasons to refuse, in their order, the first that holds; none, and the call is done
unfoldable pub first_of : List (Bool × Uncounted) → Result ⊤ Uncounted
first_of [] = (Ok tt)
first_of (reason ∷ others) = cond reason.0 (Err reason.1) (first_of others)

abbrev pub is_done : Result ⊤ Uncounted → Bool
is_done (Ok tt) = true
is_done (Err why) = false

module _ (R : Rule) (L : Limits) where
  -- whether a stream of this value has a clock that is there, or can have one, or needs none
  abbrev pub fits : Value → Streams → Bool
  fits v l = not (R.accepted v) || (ltb 0 (of_clock R v l) || ltb (clocks_in R l) L.clocks)

  -- why a call on the list l is refused where enough memory is lent
  unfoldable pub reasons : Call → Streams → List (Bool × Uncounted)
  reasons (count v) l = (leb L.streams (length l), TotalFull) ∷ (not (fits v l), ClocksFull) ∷ []
  reasons (withdraw v) l = (not (ltb 0 (number_of (like R v) l)), NoStream) ∷ []
  reasons (join a b) l = (not (ltb 0 (of_clock R a l) && ltb 0 (of_clock R b l)), NoStream) ∷ []

  -- the answer to a call that lends n bytes: too little memory is the first of all reasons
  unfoldable pub answer : ℕ → Call → Streams → Result ⊤ Uncounted
  answer n c l = first_of ((ltb n L.memory, NoMemory) ∷ reasons c l)

  -- the list after a call that is done
  unfoldable pub next : Call → Streams → Streams
  next (count v) l = v ∷ l
  next (withdraw v) l = without (like R v) l
  next (join a b) l = joined R a b l

  -- and after any call: one that is refused changes nothing
  unfoldable pub after : ℕ → Call → Streams → Streams
  after n c l = cond (is_done (answer n c l)) (next c l) l

-- how much a call with its answer adds to those answered "counted", and to those answered "withdrawn"
abbrev pub counted_by : Call → Result ⊤ Uncounted → ℕ
counted_by (count v) (Ok tt) = 1
counted_by (count v) (Err why) = 0
counted_by (withdraw v) a = 0
counted_by (join v w) a = 0

abbrev pub withdrawn_by : Call → Result ⊤ Uncounted → ℕ
withdrawn_by (count v) a = 0
withdrawn_by (withdraw v) (Ok tt) = 1
withdrawn_by (withdraw v) (Err why) = 0
withdrawn_by (join v w) a = 0
