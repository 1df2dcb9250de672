-- One law for each way out of `read_stream`. Assumes nothing.
use Rattle.std.specs.Prelude.{Result, Ok, Err}
use Prim.Native.Nat.{ℕ, ◌+◌, ◌^◌, ◌≤◌, ◌<◌}
use mathlib.Core.Path.{◌≡◌, sym, ◌∙◌}
use mathlib.Core.List.{List}
use native.Mathlib.Omega.{arith}
use lib.Dec.{eqb}
use lib.ListN.{length}
use borrow.Author.Tests.{eqb-true}
use Rattle.text.specs.Place.{place}
use Rattle.text.proofs.Bools.{by_bool}
use mir.Val.{Fits}
use mir.Syntax.{w64}
use Rattle.eui64.specs.Eui64.{eui64_of}
use Rattle.eui64.specs.declared.Fault.{Fault}
use Rattle.eui64.specs.declared.BrokenRule.TheVariants.{Length}
use Rattle.eui64.proofs.Written.{eui_fault}
use Rattle.clock.specs.Refusal.{refusal}
use Rattle.clock.specs.Records.{eui64}
use Rattle.clock.specs.declared.Refusal.{Refusal}
use Rattle.meaning.specs.MediaClock.{broken_number, stream_of}

-- the place of a fault starts within 23 bytes: at 0 where the length is wrong
start_none : (f : Fault) (n : ℕ) → ◌≡◌ {A = Result ℕ Fault} (Err f) (Err (record { rule = Length; place = place 0 n })) → f.place.start ≤ 23
start_none f n h = let e : f ≡ record { rule = Length; place = place 0 n } = cc in rw e (omega arith)

fault_start : (f : Fault) (s : List ℕ) → Err f ≡ eui64_of s → f.place.start ≤ 23
unfolding eui64_of
fault_start f s h =
    by_bool (eqb (length s) 23)
    (λ e. omega (arith, eui_fault f s h, eqb-true (length s) 23 e))
    (λ e. start_none f (length s) (simp e at h))

-- `read_stream`
module _ (at : ℕ) (s : List ℕ) (x : Result ℕ Fault) (ex : x ≡ eui64_of s) where
  pub stream_is : (n : ℕ) → x ≡ Ok n → Ok (eui64 n) ≡ stream_of at s
  unfolding stream_of
  stream_is n e = simp (← ex, e)

  module _ (fault : Fault) (e : x ≡ Err fault) where
    pub stream_start : at < 2 ^ 32 → Fits w64 (at + fault.place.start)
    stream_start h = record { fits = omega (arith, fault_start fault s (sym e ∙ ex)) }

    pub stream_fault : (k : ℕ) → k ≡ broken_number fault.rule → (f : Refusal)
        → f ≡ refusal k (at + fault.place.start) fault.place.len → Err f ≡ stream_of at s
    unfolding stream_of
    stream_fault k ek f ef = simp (← ex, e, ef, ek)

pub ruleset laws = (
  stream_is,
  stream_start,
  stream_fault,
)
