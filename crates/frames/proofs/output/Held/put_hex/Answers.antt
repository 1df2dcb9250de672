use Rattle.std.proofs.Common.{rules}
use Rattle.frames.proofs.Room.{held_then}
use Rattle.frames.proofs.output.Held.put_hex.Goals as goal

pub returns : goal.returns
returns c =
    rw (← c.self.view_is) (held_then 65536 c.self.inside.len c.min-self-inside.result (search rules) c.put_hex_bytes-end.ensures (search rules) (search rules))
