-- One law for each way out of the functions that find a fingerprint. Assumes nothing.
use Prim.Native.Nat.{ℕ, ◌/◌}
use mathlib.Core.Path.{◌≡◌, refl, ap, ◌∙◌}
use mathlib.Core.List.{List}
use Rattle.text.specs.Place.{Lent, PartAt}
use Rattle.hostprint.specs.Mixed.{mixed, mixed_text}
use Rattle.hostprint.specs.Server.{print_of_host}
use Rattle.clock.specs.declared.ReferenceClock.{ReferenceClock}
use Rattle.meaning.specs.Meaning.{ref_meaning}
use Rattle.equal.specs.Fingerprint.{mixed_numbers, host_print, columns, fingerprint}
use Rattle.equal.specs.Private.Parts.{over, Says, clock_over}
use Rattle.equal.specs.declared.parts.Parts.{Parts}
use Rattle.equal.proofs.Shared.{flat_print, flat_print_lem}

-- `host_print`
pub host_printed : (s : List ℕ) (r : ℕ) → r ≡ print_of_host s → r ≡ host_print s
unfolding host_print
host_printed s r e = e

-- `mix_numbers`
pub numbers_mixed : (n kind form first second third a b c d e r : ℕ) → a ≡ mixed n kind → b ≡ mixed a form → c ≡ mixed b first
    → d ≡ mixed c (second / 4294967296) → e ≡ mixed d second → r ≡ mixed e third → r ≡ mixed_numbers n kind form first second third
unfolding mixed_numbers
numbers_mixed n kind form first second third a b c d e r ea eb ec ed ee er = rw (er, ee, ed, ec, eb, ea) refl

-- `fingerprint`
pub fingerprint_is : (v a b d : Lent) (c : ReferenceClock) (p : Parts) → Says p (clock_over c)
    → PartAt v p.head a → (host : ℕ) → host ≡ host_print a.now
    → PartAt v p.name b → (named : ℕ) → named ≡ mixed_text host b.now
    → (numbered : ℕ) → numbered ≡ mixed_numbers named p.numbers.kind p.numbers.form p.numbers.first p.numbers.second p.numbers.third
    → PartAt v p.value d → (r : ℕ) → r ≡ mixed_text numbered d.now → r ≡ fingerprint host_print (ref_meaning v.now c)
unfolding columns clock_over
fingerprint_is v a b d c p says pa host eh pb named en numbered ek pd r e =
    let f : r ≡ flat_print host_print (over v.now p) = rw (e, ek, en, eh, pa.bytes, pb.bytes, pd.bytes) refl in
    f ∙ ap (flat_print host_print) (says.of v.now) ∙ flat_print_lem host_print (ref_meaning v.now c)

pub ruleset laws = (host_printed, numbers_mixed, fingerprint_is)
