-- What the private functions answer and leave.
use Rattle.std.specs.Prelude.{ℕ, ◌≡◌, List}
use Rattle.room.specs.Put.{Put}
use Rattle.report.specs.Reply.{Reply}
use Rattle.briefreply.specs.declared.ReplySize.{ReplySize}

-- a reply is put at the room's front; a byte whose place lies behind the room's end is counted and not stored
pub record Puts (reply : Reply) (room : List ℕ) (r : ReplySize) (after : List ℕ) : Type 0 where
  pub kind : r.kind ≡ reply.kind
  pub put : Put 1030 room 0 reply.says r.len after
