-- One law for each way out of `check_value`, and those by which a reader reads on behind it. Assumes nothing.
use Rattle.std.specs.Prelude.{Result, ⊤, Ok, Err, MatchResult, IsErrAnd}
use Prim.Native.Nat.{ℕ, ◌-◌, ◌≤◌, ◌<◌}
use mathlib.Core.Path.{◌≡◌, refl, sym, ap, ◌∙◌}
use mathlib.Core.List.{List}
use mathlib.Core.Bool.{Bool, true, false, cond}
use lib.Dec.{ltb}
use lib.ListN.{length}
use borrow.Author.Tests.{lt-ltb, le-ltb, ltb-false}
use Rattle.text.proofs.Bools.{by_bool, clash}
use Rattle.utf8.specs.Utf8.{utf8_of}
use Rattle.clock.specs.Refusal.{refusal}
use Rattle.clock.specs.declared.Refusal.{Refusal}
use Rattle.meaning.specs.Answer.{Answer, refuse, ◌>>=◌, most_bytes, if_well, guarded}

-- `check_value`
module _ (s : List ℕ) where
  pub value_long : 1024 < length s → guarded {A = ⊤} s (Ok tt) ≡ refuse 1 1024 (length s - 1024)
  unfolding guarded
  value_long h = simp (lt-ltb _ _ h)

  pub value_short : length s ≤ 1024 → guarded {A = ⊤} s (Ok tt) ≡ if_well {A = ⊤} (utf8_of s) (Ok tt)
  unfolding guarded
  value_short h = simp (le-ltb _ _ h)

-- what is read of a value is read behind the guard: of the guard's answer the rest follows
pub guarded_behind : {A : Type 0} (s : List ℕ) (a : Answer A) → guarded s a ≡ (guarded {A = ⊤} s (Ok tt) >>= λ u. a)
unfolding guarded
guarded_behind {A} s a = go (ltb most_bytes (length s)) (utf8_of s)
  where
    go : (over : Bool) (u : Result ⊤ ℕ)
        → cond over (refuse 1 most_bytes (length s - most_bytes)) (if_well u a)
        ≡ (cond over (refuse 1 most_bytes (length s - most_bytes)) (if_well {A = ⊤} u (Ok tt)) >>= λ u. a)
    go true u = refl
    go false (Ok tt) = refl
    go false (Err at) = refl

-- a value that passes it is short
pub guard_short : (s : List ℕ) → guarded {A = ⊤} s (Ok tt) ≡ Ok tt → length s ≤ 1024
unfolding guarded
guard_short s e = by_bool (ltb most_bytes (length s)) (λ o. clash (cc (simp o at e))) (λ o. ltb-false most_bytes (length s) o)

pub ruleset laws = (
  value_long,
  value_short,
)
