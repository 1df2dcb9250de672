-- What a spelling of domains must keep, so that the theorems hold with it; and the bare spelling keeps it: 16 bytes are a name, and a number
-- up to 127 is written with at most three digits, so never as a name. Assumes nothing.
use Rattle.std.specs.Prelude.{Ok}
use Prim.Native.Nat.{ℕ, ◌+◌, ◌≤◌}
use mathlib.Core.Path.{◌≡◌, refl, ap}
use mathlib.Core.List.{List}
use mathlib.Core.Bool.{true}
use native.Mathlib.Omega.{arith}
use lib.Dec.{eqb}
use lib.ListN.{length, drop, length-drop}
use borrow.Author.Tests.{eqb-true, eq-eqb, ne_eqb, le-leb}
use Rattle.text.specs.Place.{place}
use Rattle.text.proofs.Bools.{by_bool}
use Rattle.number.specs.Decimal.{number_of, decimal}
use Rattle.number.proofs.Laws.{number_le}
use Rattle.number.proofs.Written.{number_back_lem, number_short, decimal_length, decimal_ascii}
use Rattle.utf8.proofs.Text.{utf8_all_ascii}
use Rattle.clock.specs.Refusal.{refusal}
use Rattle.clock.specs.declared.PtpDomain.{PtpDomain}
use Rattle.clock.specs.declared.PtpDomain.TheVariants.{DomainName, DomainNumber}
use Rattle.meaning.specs.Answer.{number_at}
use Rattle.meaning.specs.Meaning.{domain_means}
use Rattle.meaning.specs.Domain.{Spelling, bare_read, bare_text, bare}
use Rattle.meaning.specs.Inside.{domain_inside}
use Rattle.meaning.proofs.Told.{through, was_number, Told, bytes_all}

-- Of a domain that was read at the end of a value v: its place lies inside v; and its text is no longer, well-formed, and read back.
pub record Lawful (spelling : Spelling) : Type 0 where
  pub inside : (v : List ℕ) (at : ℕ) (s : List ℕ) (d : PtpDomain) → drop at v ≡ s → at ≤ length v → spelling.read at s ≡ Ok d
      → domain_inside v d ≡ true
  pub told : (v : List ℕ) (at : ℕ) (s : List ℕ) (d : PtpDomain) → drop at v ≡ s → spelling.read at s ≡ Ok d
      → Told spelling.read domain_means 0 at s (spelling.text (domain_means v d)) (domain_means v d)

-- a domain that was read bare
data BareIs (at : ℕ) (s : List ℕ) : PtpDomain → Type 0 where
  is_name : length s ≡ 16 → BareIs at s (DomainName (place at (length s)))
  is_number : (n : ℕ) → Ok n ≡ number_of 127 s → BareIs at s (DomainNumber n)

bare_is : (at : ℕ) (s : List ℕ) (d : PtpDomain) → bare_read at s ≡ Ok d → BareIs at s d
unfolding bare_read
bare_is at s d h =
    by_bool (eqb (length s) 16)
    (λ e. let k : d ≡ DomainName (place at (length s)) = cc (simp e at h) in rw k (is_name (eqb-true (length s) 16 e)))
    (λ e.
    let r = through (number_at 127 10 at s) (λ n. Ok (DomainNumber n)) d (simp e at h) in
    let k : d ≡ DomainNumber r.value = cc r.onward in
    rw k (is_number r.value (was_number (number_of 127 s) (refusal 10 at (length s)) r.value r.is)))

bare_inside : (v : List ℕ) (at : ℕ) (s : List ℕ) (d : PtpDomain) → drop at v ≡ s → at ≤ length v → BareIs at s d → domain_inside v d ≡ true
bare_inside v at s d q l (is_name e) = le-leb (at + length s) (length v) (omega (arith, length-drop at v, ap length q))
bare_inside v at s d q l (is_number n e) = refl

bare_told : (v : List ℕ) (at : ℕ) (s : List ℕ) (d : PtpDomain) → drop at v ≡ s → BareIs at s d
    → Told bare_read domain_means 0 at s (bare_text (domain_means v d)) (domain_means v d)
unfolding bare_read bare_text
bare_told v at s d q (is_name e) =
    rw (bytes_all v at s q)
    (record {
      short = omega arith;
      form = λ f. f;
      back = λ w p. simp (eq-eqb (length s) 16 e, bytes_all w at s p);
    })
bare_told v at s d q (is_number n e) =
    let l = number_le 127 n s e in
    let k = decimal_length 2 n (omega arith) (omega arith) in
    record {
      short = omega (arith, number_short 127 s n (omega arith) e);
      form = λ f. utf8_all_ascii (decimal n) (decimal_ascii n (omega arith));
      back = λ w p. simp (ne_eqb (length (decimal n)) 16 (λ f. omega arith), ← number_back_lem 127 n l (omega arith));
    }

pub bare_lawful : Lawful bare
bare_lawful =
    record {
      inside = λ v at s d q l h. bare_inside v at s d q l (bare_is at s d h);
      told = λ v at s d q h. bare_told v at s d q (bare_is at s d h);
    }
