-- What is told of a text that was read as what has no places in it: numbers, EUI-64s and what is made of them alone. Assumes nothing.
use Rattle.std.specs.Prelude.{Ok}
use Prim.Native.Nat.{ℕ, ◌^◌, ◌≤◌, ◌<◌}
use mathlib.Core.Path.{◌≡◌}
use mathlib.Core.List.{List, ◌++◌}
use mathlib.Core.Bool.{true, false}
use native.Mathlib.Omega.{arith}
use lib.ListN.{length, drop, length-append}
use Rattle.text.specs.Find.{before}
use Rattle.text.specs.Word.{starts}
use Rattle.text.proofs.Ascii.{ascii, ascii_append}
use Rattle.text.proofs.Cuts.{last_free}
use Rattle.number.specs.Decimal.{is_digit, number_of, decimal}
use Rattle.number.proofs.Laws.{number_le}
use Rattle.number.proofs.Written.{number_back_lem, number_short, decimal_ascii, decimal_free}
use Rattle.utf8.proofs.Text.{utf8_all_ascii}
use Rattle.clock.specs.Refusal.{refusal}
use Rattle.meaning.specs.Answer.{Answer, number_at}
use Rattle.meaning.proofs.Told.{was_number, starts_length, Told}

-- s was read as a, and t is the text of a: it is no longer, of bytes below 128, and reads as a at any place.
pub record Plain {A : Type 0} (reader : ℕ → List ℕ → Answer A) (s t : List ℕ) (a : A) : Type 0 where
  pub short : length t ≤ length s
  pub low : ascii t ≡ true
  pub back : (at : ℕ) → reader at t ≡ Ok a

module _ {A M : Type 0} {reader : ℕ → List ℕ → Answer A} {s t : List ℕ} {a : A} where
  pub plain_told : {means : List ℕ → A → M} {m : M} (at : ℕ) → Plain reader s t a → ((w : List ℕ) → means w a ≡ m) → Told reader means 0 at s t m
  plain_told at p f =
      record {
        short = omega (arith, p.short);
        form = λ k. utf8_all_ascii t p.low;
        back = λ w q. rw (p.back at, f w);
      }

module _ {A B : Type 0} {inner : ℕ → List ℕ → Answer A} {a : A} where
  -- behind a fixed word
  pub plain_behind : (reader : ℕ → List ℕ → Answer B) (b : B) (w s t : List ℕ) → ascii w ≡ true → starts w s ≡ true → Plain inner (drop (length w) s) t a
      → ((at : ℕ) → reader at (w ++ t) ≡ Ok b) → Plain reader s (w ++ t) b
  plain_behind reader b w s t l e p f =
      record {
        short = omega (arith, p.short, starts_length w s e, length-append w t);
        low = ascii_append w t l p.low;
        back = f;
      }

-- a number
module _ (limit k at : ℕ) (s : List ℕ) (n : ℕ) (w : limit < 2 ^ 64) (h : number_at limit k at s ≡ Ok n) where
  read : Ok n ≡ number_of limit s
  read = was_number (number_of limit s) (refusal k at (length s)) n h

  number_small : n < 2 ^ 64
  number_small = omega (arith, number_le limit n s read)

  pub number_plain : Plain (number_at limit k) s (decimal n) n
  number_plain =
      record {
        short = number_short limit s n w read;
        low = decimal_ascii n number_small;
        back = λ p. rw (← number_back_lem limit n (number_le limit n s read) number_small);
      }

  pub number_free : (b : ℕ) → is_digit b ≡ false → before b (decimal n) ≡ length (decimal n)
  number_free b d = last_free b (decimal n) (decimal_free b n d number_small)
