-- `utf8::sequence_length` meets its contract: the bytes that are left to a sequence settle it.
use Prim.Native.Nat.{◌-◌}
use mathlib.Core.Path.{◌≡◌}
use native.Mathlib.Omega.{arith}
use Rattle.utf8.proofs.Laws.{begins_never, tails_start, check_start}
use Rattle.utf8.proofs.sequence_length.Goals as goal

pub returns-in_err-lead : goal.returns-in_err-lead
returns-in_err-lead c = begins_never _ _ c.in-len1-up.len_at_least c.lead_of.ensures c.in_err-lead.was _ c.from_residual.ensures

pub loop-i-init : goal.loop-i-init
loop-i-init c =
    let all_left : c.in_ok-lead.lead.more - 0 ≡ c.in_ok-lead.lead.more = omega arith in
    rw all_left (tails_start (check_start c.args.s.now) _ c.in-len1-up.len_at_least c.lead_of.ensures c.in_ok-lead.lead c.in_ok-lead.was)
