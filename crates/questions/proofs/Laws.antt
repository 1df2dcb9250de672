-- What the functions of the crate rest on. Assumes nothing.
use Rattle.std.specs.Prelude.{Ok}
use Prim.Native.Nat.{ℕ, ◌≤◌}
use mathlib.Core.Path.{◌≡◌, sym}
use mathlib.Core.List.{List}
use mathlib.Core.Bool.{Bool}
use lib.ListN.{length}
use Rattle.clock.specs.declared.ReferenceClock.{ReferenceClock}
use Rattle.meaning.specs.ReferenceClock.{read_reference_clock}
use Rattle.meaning.specs.Domain.{bare}
use Rattle.meaning.proofs.Spelling.{bare_lawful}
use Rattle.meaning.proofs.Reference.{ref_fits}
use Rattle.meaning.proofs.Demand3.{ref_answer}
use Rattle.meaning.specs.Meaning.{ref_meaning}
use Rattle.equal.specs.Decides.{Decides}
use Rattle.equal.specs.Alike.{OneClock, hosts_alike}
use Rattle.questions.specs.SameClock.{SameClock}

-- `same_clock`: of two records that are known
pub both_accepted : (v w : List ℕ) (c d : ReferenceClock) → Ok c ≡ read_reference_clock v → Ok d ≡ read_reference_clock w → (r : Bool)
    → Decides r (OneClock hosts_alike (ref_meaning v c) (ref_meaning w d)) → Decides r (SameClock v w)
both_accepted v w c d ev ew r h =
    record {
      right = λ k. record { first = c; second = d; is_first = sym ev; is_second = sym ew; one = h.right k };
      found = λ s.
          let a : s.first ≡ c = cc (ev, s.is_first) in
          let b : s.second ≡ d = cc (ew, s.is_second) in
          h.found (rw (a, b) at s.one);
    }

-- an accepted value is short
pub accepted_short : (v : List ℕ) (c : ReferenceClock) → Ok c ≡ read_reference_clock v → length v ≤ 1024
accepted_short v c e = ref_fits bare bare_lawful v c (ref_answer v c (sym e))
