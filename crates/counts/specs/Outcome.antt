-- What a call answers, and what it leaves: the census, and every byte of the memory.
use Rattle.std.specs.Prelude.{ℕ, ◌≡◌, List, Ok, Err}
use Rattle.streams.specs.declared.Uncounted.{Uncounted}
use Rattle.counts.specs.declared.Census.{Census}
use Rattle.counts.specs.declared.Called.{Called}

abbrev pub done_with : Census → Called
done_with c = record { verdict = (Ok tt); census = c }

abbrev pub refused_with : Census → Uncounted → Called
refused_with c why = record { verdict = Err why; census = c }

-- a call leaves a census and a memory, or is refused
pub data Outcome : Type 0 where
  leaves : Census → List ℕ → Outcome
  refuses : Uncounted → Outcome

-- a refused call changes neither census nor memory
abbrev pub called_with : Outcome → Census → Called
called_with (leaves c' m') c = done_with c'
called_with (refuses why) c = refused_with c why

abbrev pub memory_after : Outcome → List ℕ → List ℕ
memory_after (leaves c' m') m = m'
memory_after (refuses why) m = m

-- from the census c and the memory m the outcome o is the result r and the memory m'
pub record Does (o : Outcome) (c : Census) (m : List ℕ) (r : Called) (m' : List ℕ) : Type 0 where
  pub result : r ≡ called_with o c
  pub memory : m' ≡ memory_after o m
