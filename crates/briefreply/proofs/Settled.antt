-- The statement of `specs/Gives.antt`, proved. Assumes nothing.
use mathlib.Core.Path.{◌≡◌, sym, ap, ◌∙◌}
use Rattle.report.specs.declared.Kind.{Kind}
use Rattle.briefreply.specs.declared.ReplySize.{ReplySize}
use Rattle.briefreply.specs.Gives.{GivesSettled}
use Rattle.briefreply.proofs.Laws.{reply_size}

same_size : (r other : ReplySize) → r.kind ≡ other.kind → r.len ≡ other.len → r ≡ other
same_size r other e f = ap (λ (k : Kind). reply_size k r.len) e ∙ ap (reply_size other.kind) f

pub gives_settled : GivesSettled
gives_settled reply room r other after later p q =
    (same_size r other (p.kind ∙ sym q.kind) (p.len ∙ sym q.len), p.leaves ∙ sym q.leaves)
