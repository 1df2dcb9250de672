-- The rule of before was there, and lawful, and today's calls the same whatever it did. Assumes nothing.
use Rattle.std.specs.Prelude.{Result, Ok, Err}
use mathlib.Core.Path.{◌≡◌, refl, sym, ap, ◌∙◌}
use mathlib.Core.Bool.{Bool, false}
use Rattle.text.specs.Word.{same}
use Rattle.text.proofs.Bools.{clash}
use Rattle.meaning.specs.ReferenceClock.{read_reference_clock}
use Rattle.meaning.specs.Meaning.{ref_meaning}
use Rattle.equal.specs.Decides.{Decides}
use Rattle.equal.specs.Private.Test.{alike}
use Rattle.equal.proofs.Equality.{clocks_decide}
use Rattle.questions.specs.Owed.{EqualRecords}
use Rattle.questions.proofs.Owed.{equal_is_same}
use Rattle.streams.specs.Rule.{Value}
use Rattle.naming.specs.Domain.{domain_of}
use Rattle.naming.specs.ClockRule.{is_accepted, ThereWas, WasLawful, WasNarrower}
use Rattle.naming.proofs.ClockRule.{accepted_by, same_domain, refused_domain}
use Rattle.clock.specs.declared.ReferenceClock.{ReferenceClock}
use Rattle.clock.specs.declared.Refusal.{Refusal}

-- equal records, as a test
abbrev both_equal : Value → Result ReferenceClock Refusal → Value → Result ReferenceClock Refusal → Bool
both_equal v (Ok c) w (Ok d) = alike same (ref_meaning v c) (ref_meaning w d)
both_equal v (Ok c) w (Err r) = false
both_equal v (Err r) w x = false

equal_decides : (v w : Value) → Decides (both_equal v (read_reference_clock v) w (read_reference_clock w)) (EqualRecords v w)
equal_decides v w = go (read_reference_clock v) (read_reference_clock w) refl refl
  where
    go : (x y : Result ReferenceClock Refusal) → read_reference_clock v ≡ x → read_reference_clock w ≡ y → Decides (both_equal v x w y) (EqualRecords v w)
    go (Ok c) (Ok d) e f =
        let t = clocks_decide (ref_meaning v c) (ref_meaning w d) in
        record {
          right = λ h. record { first = c; second = d; is_first = e; is_second = f; equal = t.right h };
          found = λ q.
              let a : q.first ≡ c = cc (q.is_first, e) in
              let b : q.second ≡ d = cc (q.is_second, f) in
              t.found (rw (a, b) at q.equal);
        }
    go (Ok c) (Err r) e f = record { right = λ h. clash (cc (h)); found = λ q. clash (cc (q.is_second, f)) }
    go (Err r) y e f = record { right = λ h. clash (cc (h)); found = λ q. clash (cc (q.is_first, e)) }

pub there_was : ThereWas
there_was =
    record {
      rule =
          record {
            accepted = λ v. is_accepted (read_reference_clock v);
            same = λ v w. both_equal v (read_reference_clock v) w (read_reference_clock w);
            domain = domain_of;
          };
      meets = record { accepted = λ v. refl; same = equal_decides; domain = λ v. refl };
    }

equal_on : (v w x : Value) → EqualRecords v w → EqualRecords w x → EqualRecords v x
equal_on v w x a b =
    let e : a.second ≡ b.first = cc (a.is_second, b.is_first) in
    record {
      first = a.first;
      second = b.second;
      is_first = a.is_first;
      is_second = b.is_second;
      equal = a.equal ∙ ap (ref_meaning w) e ∙ b.equal;
    }

pub was_lawful : WasLawful
was_lawful Q B =
    record {
      to_self = λ v h.
          let a = accepted_by v (sym (B.accepted v) ∙ h) in
          (B.same v v).found (record { first = a.0; second = a.0; is_first = a.1; is_second = a.1; equal = refl });
      back = λ v w e.
          let q = (B.same v w).right e in
          (B.same w v).found
          (record { first = q.second; second = q.first; is_first = q.is_second; is_second = q.is_first; equal = sym q.equal });
      on = λ v w x e f. (B.same v x).found (equal_on v w x ((B.same v w).right e) ((B.same w x).right f));
      first = λ v w e. B.accepted v ∙ ap is_accepted ((B.same v w).right e).is_first;
      one_domain = λ v w e. B.domain v ∙ same_domain v w (equal_is_same v w ((B.same v w).right e)) ∙ sym (B.domain w);
      no_domain = λ v h. B.domain v ∙ refused_domain v (sym (B.accepted v) ∙ h);
    }

pub was_narrower : WasNarrower
was_narrower Q R B C =
    record {
      same = λ v w e. (C.same v w).found (equal_is_same v w ((B.same v w).right e));
      accepted = λ v. B.accepted v ∙ sym (C.accepted v);
      domain = λ v. B.domain v ∙ sym (C.domain v);
    }
