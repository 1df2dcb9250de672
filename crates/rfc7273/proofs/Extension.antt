-- Extensions, of either attribute: a token, and where there is one its value. Assumes nothing.
use Rattle.std.specs.Prelude.{Option, Ok}
use Prim.Native.Nat.{ℕ, ◌<◌}
use mathlib.Core.Path.{◌≡◌, refl, ◌∙◌}
use mathlib.Core.Bool.{true}
use mathlib.Core.List.{List, ◌∷◌}
use native.Mathlib.Omega.{arith}
use lib.ListN.{length, drop}
use lib.Seq.{take-length}
use borrow.Author.Tests.{ne_eqb, le-ltb}
use Rattle.text.specs.Find.{before}
use Rattle.text.specs.Place.{bytes_at}
use Rattle.text.specs.declared.Place.{Place}
use Rattle.abnf.specs.Rule.{range, ◌or◌, ◌then_many◌}
use Rattle.abnf.proofs.Free.{Lacks, free_laws}
use Rattle.utf8.specs.Utf8.{utf8_of}
use Rattle.utf8.proofs.Text.{octets_well, utf8_ascii, utf8_append}
use Rattle.meaning.specs.Answer.{extension_of}
use Rattle.meaning.specs.Meaning.{value_means}
use Rattle.meaning.proofs.Told.{joined}
use Rattle.meaning.proofs.Extension.{ext_name, ext_value, name_place, value_place, ext_means}
use Rattle.rfc7273.specs.Manner.{narrowed}
use Rattle.rfc7273.specs.Elsewhere.{token_char, token}
use Rattle.rfc7273.specs.Grammar.{ext_bytes}
use Rattle.rfc7273.specs.Means.{ExtText, without_value, with_value}
use Rattle.rfc7273.proofs.Laws.{Reads, of_only, lacks_before, high_range, Low, low_well, never_empty}

-- a token has no "=" and no ":", has bytes, and all below 128
token_equals : Lacks 61 token
unfolding token token_char
token_equals = search free_laws depth 30

pub token_colon : Lacks 58 token
unfolding token token_char
token_colon = search free_laws depth 30

pub token_low : Low token
unfolding token token_char
token_low c h = search (free_laws, high_range) depth 30

pub token_some : (s : List ℕ) → token s ≡ true → 0 < length s
unfolding token token_char ◌then_many◌ range ◌or◌
token_some = never_empty token refl

value_well : (x : List ℕ) → ext_bytes narrowed x ≡ true → utf8_of x ≡ (Ok tt)
unfolding ext_bytes
value_well = of_only (λ x. utf8_of x ≡ (Ok tt)) (λ x h k. octets_well x k)

-- the name and the value as reading cuts them
pub record Cut (s n : List ℕ) (x : Option (List ℕ)) : Type 0 where
  pub well : utf8_of s ≡ (Ok tt)
  pub some : 0 < before 61 s
  pub name : ext_name s ≡ n
  pub value : ext_value s ≡ x

pub ext_cut : {s n : List ℕ} {x : Option (List ℕ)} → ExtText s n x → Cut s n x
ext_cut (without_value n h) =
    let f = lacks_before token_equals n h in
    record {
      well = low_well token_low n h;
      some = omega (arith, token_some n h);
      name = rw f (take-length n);
      value = simp (f, le-ltb (length n) (length n) (omega arith));
    }
ext_cut (with_value n x h k) =
    let j = joined 61 n x (lacks_before token_equals n h) in
    record {
      well = utf8_append n (61 ∷ x) (low_well token_low n h) (utf8_ascii 61 x (omega arith) (value_well x k));
      some = omega (arith, j.first, token_some n h);
      name = rw j.first j.front;
      value = simp (j.first, j.found, j.behind);
    }

-- an attribute gives what an extension means by the bytes of its name and of its value
module _ {A M : Type 0} (make : Place → Option Place → A) (means : List ℕ → A → M) (ext : List ℕ → Option (List ℕ) → M)
    (is : (w : List ℕ) (n : Place) (x : Option Place) → means w (make n x) ≡ ext (bytes_at n w) (value_means w x)) where
  pub ext_reads : (k at : ℕ) (s n : List ℕ) (x : Option (List ℕ)) → Cut s n x → (w : List ℕ) → drop at w ≡ s
      → Reads (extension_of make k at s) (means w) (ext n x)
  ext_reads k at s n x c w q =
      let e = make (name_place at s) (value_place at s) in
      let r : extension_of make k at s ≡ Ok e = unfold extension_of in simp (ne_eqb (before 61 s) 0 (λ z. omega (arith, c.some))) in
      record { made = e; is = r; tells = ext_means at s make means ext is k e r w q ∙ rw (c.name, c.value) }
