-- What a fragment of the text, and its end, make of the open line and of what is lent.
use Rattle.openline.specs.declared.Advanced.{Advanced}
use Rattle.std.specs.Prelude.{ℕ, ◌≤◌, ◌≡◌, List, [], ◌++◌, cond, leb, length, take, Option, Some, None}
use Rattle.report.specs.Lines.{ended_from, open_from, last_line}
use Rattle.report.specs.Report.{printed, totals_text}
use Rattle.report.specs.Reader.{counted_all}
use Rattle.report.specs.declared.Totals.{Totals}
use Rattle.briefreply.specs.Gives.{with_front}
use Rattle.openline.specs.Memory.{memory_after}

abbrev pub made : ℕ → ℕ → Totals → Option Advanced
made n len totals = Some (record { filled = n; len = len; totals = totals })

-- The text t stands at the room's front, the memory is `kept` and has the open line at its front, and these are the totals. Where the room is too short
-- for t, room and memory are as they were.
pub record Advances (t line : List ℕ) (totals : Totals) (kept memory₀ room₀ : List ℕ) (r : Option Advanced) (memory₁ room₁ : List ℕ) : Type 0 where
  pub answer : r ≡ cond (leb (length t) (length room₀)) (made (length t) (length line) totals) None
  pub room : room₁ ≡ with_front t room₀
  pub memory : memory₁ ≡ cond (leb (length t) (length room₀)) kept memory₀
  pub front : length t ≤ length room₀ → take (length line) memory₁ ≡ line

-- A fragment, behind an open line of n bytes at the memory's front; of a longer one the first 4,294,967,295 bytes are read. The lines that end in it are
-- answered and counted, and of what is open then the first 4,098 bytes are kept.
abbrev pub GoesOn : List ℕ → ℕ → List ℕ → List ℕ → Totals → Option Advanced → List ℕ → List ℕ → Type 0
GoesOn memory n s room t =
    let begun = take n memory in
    let part = take 4294967295 s in
    Advances (printed (ended_from begun part)) (take 4098 (open_from begun part)) (counted_all t (ended_from begun part)) (memory_after (length begun) memory part)
    memory room

-- The end of the text, which leaves the memory as it was: the last line is answered and counted, where there is one, and the totals follow. No line is
-- open then.
abbrev pub EndsText : List ℕ → ℕ → List ℕ → Totals → Option Advanced → List ℕ → Type 0
EndsText memory n room t r room₁ =
    let last = last_line (take n memory) in
    Advances (printed last ++ totals_text (counted_all t last)) [] (counted_all t last) memory memory room r memory room₁

-- no second answer meets either: one answer, one memory and one room. `proofs/Settled.antt` proves this
abbrev pub AdvancesSettled : Type 0
AdvancesSettled =
    (t line : List ℕ) (totals : Totals) (kept memory room : List ℕ) (r other : Option Advanced) (memory₁ memory₂ room₁ room₂ : List ℕ)
    → Advances t line totals kept memory room r memory₁ room₁ → Advances t line totals kept memory room other memory₂ room₂
    → (r ≡ other) × (memory₁ ≡ memory₂) × (room₁ ≡ room₂)
