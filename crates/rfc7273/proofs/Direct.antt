-- A direct clock: an offset and a rate within 32 bits. Assumes nothing.
use Rattle.std.specs.Prelude.{Some, None, Ok, Option}
use Prim.Native.Nat.{ℕ, ◌+◌, ◌<◌}
use mathlib.Core.Path.{◌≡◌, refl}
use mathlib.Core.Bool.{true}
use mathlib.Core.List.{List, ◌∷◌, ◌++◌, append-nil}
use native.Mathlib.Omega.{arith}
use lib.Dec.{leb}
use lib.ListN.{length}
use lib.Seq.{take-length}
use borrow.Author.Tests.{ne_eqb}
use Rattle.text.specs.Find.{before}
use Rattle.text.specs.Word.{word, same}
use Rattle.text.proofs.Left.{none_left}
use Rattle.abnf.specs.Rule.{range, ◌then_many◌}
use Rattle.abnf.proofs.Free.{Lacks, free_laws}
use Rattle.number.specs.Decimal.{value_from, number_of}
use Rattle.utf8.specs.Utf8.{utf8_of}
use Rattle.utf8.proofs.Text.{utf8_none, utf8_ascii, utf8_append, utf8_all_ascii}
use Rattle.ipaddr.specs.Address.{digit}
use Rattle.mediarecord.specs.Records as made
use Rattle.mediarecord.specs.declared.Direct.{Direct}
use Rattle.meaning.specs.MediaClock.{most32, denominator_of, ratio_of, rate_of, offset_of, direct_of}
use Rattle.meaning.specs.Meaning.{Ratio, ratio, MediaMeaning, direct, offset_means, rate_means}
use Rattle.meaning.proofs.Told.{joined}
use Rattle.rfc7273.specs.Manner.{narrowed}
use Rattle.rfc7273.specs.Grammar.{offset, integer}
use Rattle.rfc7273.specs.Means.{OffsetText, without_offset, with_offset_lem, RateText, without_rate, with_rate_lem}
use Rattle.rfc7273.proofs.Laws.{Reads, of_only, lacks_before, high_range, Low, low_well}
use Rattle.rfc7273.proofs.Parts.{digits_are, number_read, not_zero}

-- digits within 32 bits: no space and no slash among them
record Number (s : List ℕ) : Type 0 where
  read : number_of most32 s ≡ Ok (value_from 0 s)
  no_space : before 32 s ≡ length s
  no_slash : before 47 s ≡ length s
  well : utf8_of s ≡ (Ok tt)

number : (a : ℕ) → leb 48 a ≡ true → Lacks 32 (range a 57 then_many digit) → Lacks 47 (range a 57 then_many digit)
    → Low (range a 57 then_many digit) → (s : List ℕ) → (range a 57 then_many digit) s ≡ true → leb (value_from 0 s) most32 ≡ true → Number s
number a l f g low s h k =
    record {
      read = number_read most32 s (digits_are a l s h) k;
      no_space = lacks_before f s h;
      no_slash = lacks_before g s h;
      well = low_well low s h;
    }

of_offset : (s : List ℕ) → offset narrowed s ≡ true → Number s
unfolding offset
of_offset =
    of_only Number
    (number 48 refl (search free_laws depth 10) (search free_laws depth 10)
    (λ c h. search (free_laws, high_range) depth 10))

record Integer (s : List ℕ) : Type 0 where
  number : Number s
  positive : 0 < value_from 0 s

of_integer : (s : List ℕ) → integer narrowed s ≡ true → Integer s
unfolding integer
of_integer =
    of_only Integer (λ s h k.
    record {
      number =
          number 49 refl (search free_laws depth 10) (search free_laws depth 10)
          (λ c i. search (free_laws, high_range) depth 10) s h k;
      positive = not_zero s h;
    })

-- a rate behind its space, wherever it stands
module _ (n d : List ℕ) (f : Integer n) (g : Integer d) where
  abbrev rate : List ℕ
  rate = word "rate=" ++ (n ++ 47 ∷ d)

  rate_well : utf8_of rate ≡ (Ok tt)
  rate_well =
      utf8_append (word "rate=") (n ++ 47 ∷ d) (utf8_all_ascii (word "rate=") refl)
      (utf8_append n (47 ∷ d) f.number.well (utf8_ascii 47 d (omega arith) g.number.well))

  rate_is : (at : ℕ) → rate_of at rate ≡ Ok (Some (made.rate (value_from 0 n) (value_from 0 d)))
  unfolding rate_of ratio_of denominator_of same
  rate_is at =
      let j = joined 47 n d f.number.no_slash in
      simp (
        ne_eqb (length rate) 0 (λ e. omega arith),
        j.first,
        j.found,
        j.front,
        j.behind,
        f.number.read,
        g.number.read,
        ne_eqb (value_from 0 d) 0 (λ e. omega (arith, g.positive)),
      )

-- behind "direct", wherever it stands
abbrev pub direct_means : Direct → MediaMeaning
direct_means d = direct (offset_means d.offset) (rate_means d.rate)

pub record DirectRest (t : List ℕ) (m : MediaMeaning) : Type 0 where
  pub well : utf8_of t ≡ (Ok tt)
  pub read : (at : ℕ) → Reads (direct_of at t) direct_means m

without : {r : List ℕ} {b : Option Ratio} → RateText r b → DirectRest r (direct None b)
unfolding direct_of same
without without_rate = record { well = utf8_none; read = λ at. record { made = made.direct None None; is = refl; tells = refl } }
without (with_rate_lem n d h k) =
    let f = of_integer n h in
    let g = of_integer d k in
    record {
      well = utf8_ascii 32 (rate n d f g) (omega arith) (rate_well n d f g);
      read = λ at.
          record {
            made = made.direct None (Some (made.rate (value_from 0 n) (value_from 0 d)));
            is = simp (ne_eqb (length (32 ∷ rate n d f g)) 0 (λ e. omega arith), rate_is n d f g (at + 1));
            tells = refl;
          };
    }

module _ (o : List ℕ) (q : Number o) where
  offset_alone : DirectRest (61 ∷ o) (direct (Some (value_from 0 o)) None)
  unfolding direct_of offset_of rate_of same
  offset_alone =
      record {
        well = utf8_ascii 61 o (omega arith) q.well;
        read = λ at.
            record {
              made = made.direct (Some (value_from 0 o)) None;
              is = simp (
                ne_eqb (length (61 ∷ o)) 0 (λ e. omega arith),
                q.no_space,
                take-length o,
                q.read,
                none_left o (length o + 1) (omega arith),
              );
              tells = refl;
            };
      }

  module _ (n d : List ℕ) (f : Integer n) (g : Integer d) where
    offset_rate : DirectRest (61 ∷ (o ++ 32 ∷ rate n d f g)) (direct (Some (value_from 0 o)) (Some (ratio (value_from 0 n) (value_from 0 d))))
    unfolding direct_of offset_of same
    offset_rate =
        let r = rate n d f g in
        let j = joined 32 o r q.no_space in
        record {
          well = utf8_ascii 61 (o ++ 32 ∷ r) (omega arith) (utf8_append o (32 ∷ r) q.well (utf8_ascii 32 r (omega arith) (rate_well n d f g)));
          read = λ at.
              record {
                made = made.direct (Some (value_from 0 o)) (Some (made.rate (value_from 0 n) (value_from 0 d)));
                is = simp (
                  ne_eqb (length (61 ∷ (o ++ 32 ∷ r))) 0 (λ e. omega arith),
                  j.first,
                  j.front,
                  q.read,
                  j.behind,
                  rate_is n d f g (at + 1 + (length o + 1)),
                );
                tells = refl;
              };
        }

  offset_then : {r : List ℕ} {b : Option Ratio} → RateText r b → DirectRest (61 ∷ (o ++ r)) (direct (Some (value_from 0 o)) b)
  offset_then without_rate = rw (append-nil o) offset_alone
  offset_then (with_rate_lem n d h k) = offset_rate n d (of_integer n h) (of_integer d k)

pub direct_read : {o r : List ℕ} {a : Option ℕ} {b : Option Ratio} → OffsetText o a → RateText r b → DirectRest (o ++ r) (direct a b)
direct_read without_offset t = without t
direct_read (with_offset_lem d k) t = offset_then d (of_offset d k) t
