-- One law for each way out of the crate's functions. Assumes nothing.
use Prim.Native.Nat.{ℕ, ◌+◌, ◌*◌, ◌%◌}
use native.Mathlib.Omega.{arith}
use mathlib.Core.Path.{◌≡◌, refl, ◌∙◌}
use mathlib.Core.List.{List, [], ◌∷◌}
use Rattle.std.specs.Prelude.{Option, Some, None}
use Rattle.std.specs.List.{fold}
use Rattle.ipaddr.specs.Number.{ip_address_of}
use Rattle.ipnumber.specs.Told.{told}
use Rattle.ipnumber.specs.declared.IpNumber.{IpNumber}
use Rattle.hosts.specs.Server.{lower, folded}
use Rattle.hostprint.specs.Mixed.{mixed, mixed_text}
use Rattle.hostprint.specs.Server.{family_number, print_of_host}

-- `mix`
pub mix_low : (n k : ℕ) → (n * 16777619 + k % 4294967296) % 4294967296 ≡ mixed n k
unfolding mixed
mix_low n k = omega arith

-- numbers mixed one after another
pub mixed_all : (n : ℕ) (s : List ℕ) → fold (λ m k. mixed m k) n s ≡ mixed_text n s
unfolding mixed_text
mixed_all n [] = refl
mixed_all n (b ∷ s) = mixed_all (mixed n b) s

pub mixed_lower : (n : ℕ) (s : List ℕ) → fold (λ m b. mixed m (lower b)) n s ≡ mixed_text n (folded s)
unfolding mixed_text folded
mixed_lower n [] = refl
mixed_lower n (b ∷ s) = mixed_lower (mixed n (lower b)) s

pub mixing : (n : ℕ) (s : List ℕ) (r : ℕ) → r ≡ fold (λ m k. mixed m k) n s → r ≡ mixed_text n s
mixing n s r e = e ∙ mixed_all n s

pub folding : (n : ℕ) (s : List ℕ) (r : ℕ) → r ≡ fold (λ m b. mixed m (lower b)) n s → r ≡ mixed_text n (folded s)
folding n s r e = e ∙ mixed_lower n s

-- `print_of_host`
module _ (s : List ℕ) (x : Option IpNumber) (e : x ≡ told (ip_address_of s)) (r : ℕ) where
  pub name_mixed : x ≡ None → r ≡ mixed_text 0 (folded s) → r ≡ print_of_host s
  unfolding print_of_host
  name_mixed f er = er ∙ rw (← e, f) refl

  pub address_mixed : (a : IpNumber) → x ≡ Some a → (k : ℕ) → k ≡ family_number a.family → r ≡ mixed_text k a.words → r ≡ print_of_host s
  unfolding print_of_host
  address_mixed a f k ek er = er ∙ rw (← e, f, ek) refl

pub ruleset laws = (mix_low, mixing, folding, name_mixed, address_mixed)
