-- What a state stands for beside its memory, and the memory after a fragment.
use Rattle.std.specs.Prelude.{ℕ, List, [], cond, eqb, ltb, length, take}
use Rattle.std.proofs.lemmas.List.Edits.{sets}
use Rattle.text.specs.Find.{before}
use Rattle.report.specs.Lines.{open_from}
use Rattle.report.specs.Reader.{Reader}
use Rattle.lines.specs.declared.State.{State}

-- the open line stands at the memory's front
abbrev pub view : State → List ℕ → Reader
view s memory = record { begun = take s.len memory; totals = s.totals; read = s.read; closed = s.closed }

abbrev pub state_of : Reader → State
state_of r = record { len = length r.begun; totals = r.totals; read = r.read; closed = r.closed }

-- the memory after a part that ends the open line, which has n bytes in it: the line is put together there, as far as the memory reaches; where
-- nothing of it is there, the line lies whole in the part
abbrev pub memory_at_end : ℕ → List ℕ → List ℕ → List ℕ
memory_at_end n memory part = cond (eqb n 0) memory (sets memory n part)

-- the memory after the fragment s: where an LF ends the open line, what is open behind the last LF is stored from the front; else all of s is
-- stored behind the open line
unfoldable pub memory_after : ℕ → List ℕ → List ℕ → List ℕ
memory_after n memory s =
    let i = before 10 s in
    cond (ltb i (length s)) (sets (memory_at_end n memory (take i s)) 0 (open_from [] s)) (sets memory n s)
