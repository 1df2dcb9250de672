-- What the private functions reply.
use Rattle.std.specs.Prelude.{ℕ, List}
use Rattle.report.specs.declared.Kind.{Kind}
use Rattle.report.specs.Reply.{Reply}

-- a reply whose text is known, its LF included
abbrev pub reply_of : Kind → List ℕ → Reply
reply_of k t = record { kind = k; says = t }
