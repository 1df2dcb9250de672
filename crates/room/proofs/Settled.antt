-- The statement of `specs/Put.antt`, proved. Assumes nothing.
use Rattle.std.proofs.Common.{sym, ◌∙◌}
use Rattle.room.specs.Put.{PutSettled}

pub put_settled : PutSettled
put_settled most room at text next other after later p q = (p.place ∙ sym q.place, p.bytes ∙ sym q.bytes)
