-- What a private function answers.
use Rattle.std.specs.Prelude.{ℕ, Result, Ok, Err}
use Rattle.clock.specs.declared.WriteRefusal.{WriteRefusal}
use Rattle.clock.specs.declared.WriteRefusal.TheVariants as refused

-- the length of the text that was written, or that there was no room for; 0 where the value or a place was refused
abbrev pub needed_length : WriteRefusal → ℕ
needed_length (refused.Room n) = n
needed_length (refused.Value r) = 0
needed_length refused.Outside = 0

unfoldable pub text_length : Result ℕ WriteRefusal → ℕ
text_length (Ok n) = n
text_length (Err why) = needed_length why
