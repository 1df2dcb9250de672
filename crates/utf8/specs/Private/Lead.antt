-- What a UTF8-char goes on with after its first byte: the reading of `Lead`, and of none.
use Rattle.std.specs.Prelude.{ℕ, zero, suc, false, Option, Some, None}
use Rattle.abnf.specs.Rule.{Rule, nothing, range, ◌then◌}
use Rattle.utf8.specs.declared.Lead.{Lead}

-- n bytes, the first from lo to hi, the others UTF8-tail
abbrev pub tails : ℕ → ℕ → ℕ → Rule
tails zero lo hi = nothing
tails (suc zero) lo hi = range lo hi
tails (suc (suc n)) lo hi = range lo hi then tails (suc n) 0x80 0xBF

abbrev pub goes_on : Option Lead → Rule
goes_on None t = false
goes_on (Some lead) t = tails lead.more lead.low lead.high t
