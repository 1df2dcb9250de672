-- `utf8::lead_of` meets its contract: each arm is a zone of first bytes, which its least byte settles.
use mathlib.Core.Path.{refl}
use mathlib.Core.Bool.{or-false}
use native.Mathlib.Omega.{arith}
use Rattle.utf8.proofs.Leads.{after, lead_row, lead_zone}
use Rattle.utf8.proofs.lead_of.Goals as goal

pub returns-in-224 : goal.returns-in-224
unfolding after
returns-in-224 c = lead_row 0xE0 0xE0 _ _ refl (omega arith) (omega arith) c.starts.ensures (λ t. or-false _)

pub returns-in-237 : goal.returns-in-237
unfolding after
returns-in-237 c = lead_row 0xED 0xED _ _ refl (omega arith) (omega arith) c.starts-in-237.ensures (λ t. or-false _)

pub returns-in-240 : goal.returns-in-240
unfolding after
returns-in-240 c = lead_row 0xF0 0xF0 _ _ refl (omega arith) (omega arith) c.starts-in-240.ensures (λ t. or-false _)

pub returns-in-244 : goal.returns-in-244
unfolding after
returns-in-244 c = lead_row 0xF4 0xF4 _ _ refl (omega arith) (omega arith) c.starts-in-244.ensures (λ t. or-false _)

pub returns-in-0-to-127 : goal.returns-in-0-to-127
unfolding after
returns-in-0-to-127 c = lead_row 0x00 0x7F _ _ refl (omega arith) (omega arith) c.starts-in-0-to-127.ensures (λ t. or-false _)

pub returns-in-194-to-223 : goal.returns-in-194-to-223
unfolding after
returns-in-194-to-223 c = lead_row 0xC2 0xDF _ _ refl (omega arith) (omega arith) c.starts-in-194-to-223.ensures (λ t. or-false _)

pub returns-in-225-to-236 : goal.returns-in-225-to-236
unfolding after
returns-in-225-to-236 c = lead_row 0xE1 0xEC _ _ refl (omega arith) (omega arith) c.starts-in-225-to-236.ensures (λ t. or-false _)

pub returns-in-238-to-239 : goal.returns-in-238-to-239
unfolding after
returns-in-238-to-239 c = lead_row 0xEE 0xEF _ _ refl (omega arith) (omega arith) c.starts-in-238-to-239.ensures (λ t. or-false _)

pub returns-in-241-to-243 : goal.returns-in-241-to-243
unfolding after
returns-in-241-to-243 c = lead_row 0xF1 0xF3 _ _ refl (omega arith) (omega arith) c.starts-in-241-to-243.ensures (λ t. or-false _)

pub returns-in_default : goal.returns-in_default
unfolding after
returns-in_default c = lead_zone 0x80 0xC1 refl (omega arith) (omega arith) (λ t. refl)

pub returns-in_default-2 : goal.returns-in_default-2
unfolding after
returns-in_default-2 c = lead_zone 0xF5 0xFF refl (omega arith) (omega arith) (λ t. refl)
