-- What the private functions do.
use Rattle.std.specs.Prelude.{ℕ, ◌+◌, ◌≤◌, ◌≡◌, List, ◌++◌, length, take}
use Rattle.std.proofs.lemmas.List.Edits.{sets}
use Rattle.report.specs.Lines.{without_cr, ended_from, open_from, last_line}
use Rattle.report.specs.Report.{printed, totals_text}
use Rattle.report.specs.Reply.{Reply, reply_to}
use Rattle.report.specs.Reader.{counted_all}
use Rattle.briefreply.specs.declared.ReplySize.{ReplySize}
use Rattle.report.specs.declared.Totals.{Totals}
use Rattle.lines.specs.declared.Progress.{Progress}
use Rattle.lines.specs.declared.Ran.{Ran}
use Rattle.lines.specs.View.{memory_at_end, memory_after}

-- a text is put from the place `at` on, where the room has all of its places; `next` is the place behind it
pub record Prints (t room : List ℕ) (at next : ℕ) (after : List ℕ) : Type 0 where
  pub place : next ≡ at + length t
  pub size : length after ≡ length room
  pub bytes : next ≤ length room → after ≡ sets room at t

abbrev pub progress : ℕ → Totals → Progress
progress at t = record { at = at; totals = t }

-- a reply is printed from the place `at` on
pub record Replied (x : Reply) (room : List ℕ) (at : ℕ) (a : ReplySize) (after : List ℕ) : Type 0 where
  pub put : Prints x.says room at (at + a.len) after
  pub kind : a.kind ≡ x.kind

-- a line is answered from the place `at` on
abbrev pub Replies : List ℕ → List ℕ → ℕ → ReplySize → List ℕ → Type 0
Replies line = Replied (reply_to line)

-- lines are answered, one after another, and counted
pub record Passes (ls : List (List ℕ)) (room : List ℕ) (p r : Progress) (after : List ℕ) : Type 0 where
  pub put : Prints (printed ls) room p.at r.at after
  pub totals : r.totals ≡ counted_all p.totals ls

-- the open line, n bytes of the memory, grows by a part: r bytes of it are kept
pub record Keeps (memory : List ℕ) (n : ℕ) (part : List ℕ) (r : ℕ) (after : List ℕ) : Type 0 where
  pub short : r ≤ 4098
  pub begun : take r after ≡ take 4098 (take n memory ++ part)
  pub stored : after ≡ sets memory n part

-- the open line ends with a part
pub record Ends (memory : List ℕ) (n : ℕ) (part room : List ℕ) (at : ℕ) (a : ReplySize) (memory₁ room₁ : List ℕ) : Type 0 where
  pub replies : Replies (without_cr (take n memory ++ part)) room at a room₁
  pub stored : memory₁ ≡ memory_at_end n memory part

-- the lines that end in the fragment s are answered from the room's front on, and what is open then is kept
pub record Runs (memory : List ℕ) (n : ℕ) (s room : List ℕ) (t : Totals) (r : Ran) (memory₁ room₁ : List ℕ) : Type 0 where
  pub passes : Passes (ended_from (take n memory) s) room (progress 0 t) r.past room₁
  pub short : r.len ≤ 4098
  pub begun : take r.len memory₁ ≡ take 4098 (open_from (take n memory) s)
  pub stored : memory₁ ≡ memory_after n memory s

-- the last line is answered, where there is one, and the totals are put behind it
abbrev pub finish_text : List ℕ → Totals → List ℕ
finish_text last t = printed (last_line last) ++ totals_text (counted_all t (last_line last))

pub record Finishes (last room : List ℕ) (t : Totals) (r : Progress) (after : List ℕ) : Type 0 where
  pub put : Prints (finish_text last t) room 0 r.at after
  pub totals : r.totals ≡ counted_all t (last_line last)
