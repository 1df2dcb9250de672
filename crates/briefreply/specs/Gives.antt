-- What is answered for a line, and what is left in the room.
use Rattle.std.specs.Prelude.{ℕ, ◌≡◌, List, ◌++◌, cond, leb, length, drop}
use Rattle.report.specs.Reply.{Reply}
use Rattle.briefreply.specs.declared.ReplySize.{ReplySize}

-- the room with the text at its front and the bytes behind it as they were, where the text fits; else the room as it was
unfoldable pub with_front : List ℕ → List ℕ → List ℕ
with_front t room = cond (leb (length t) (length room)) (t ++ drop (length t) room) room

-- the reply to a line: its kind and its length are answered, and it stands in the room where it fits
pub record Gives (reply : Reply) (room : List ℕ) (r : ReplySize) (after : List ℕ) : Type 0 where
  pub kind : r.kind ≡ reply.kind
  pub len : r.len ≡ length reply.says
  pub leaves : after ≡ with_front reply.says room

-- no second answer meets it: one kind and length, and one room. `proofs/Settled.antt` proves this
abbrev pub GivesSettled : Type 0
GivesSettled =
    (reply : Reply) (room : List ℕ) (r other : ReplySize) (after later : List ℕ)
    → Gives reply room r after → Gives reply room other later → (r ≡ other) × (after ≡ later)
