-- What the theorems of reading back share: how an accepted answer came about, and what is told of a text that was read. Assumes nothing.
use Rattle.std.specs.Prelude.{Result, ⊤, Ok, Err}
use Prim.Native.Nat.{ℕ, ◌+◌, ◌-◌, ◌≤◌, ◌<◌}
use mathlib.Core.Path.{◌≡◌, refl, sym, ap, ◌∙◌}
use mathlib.Core.List.{List, ◌∷◌, ◌++◌}
use mathlib.Core.Bool.{true}
use native.Mathlib.Omega.{arith}
use native.Mathlib.Numerals.{add-one}
use lib.Dec.{ltb}
use lib.ListN.{length, take, drop, take-append-drop, length-append}
use lib.Seq.{take_at, take-length, drop-drop}
use borrow.Author.Tests.{lt-ltb, le-ltb, ltb-false}
use Rattle.text.specs.Find.{before}
use Rattle.text.specs.Word.{starts}
use Rattle.text.specs.Place.{place, bytes_at}
use Rattle.text.proofs.Bools.{by_bool, clash}
use Rattle.text.proofs.Cuts.{same_eq, same_refl, before_length, before_take, before_join, cut_first, drop_join}
use Rattle.utf8.specs.Utf8.{utf8_of}
use Rattle.clock.specs.declared.Refusal.{Refusal}
use Rattle.meaning.specs.Answer.{Answer, refuse, ◌>>=◌, or_refuse, most_bytes, if_well, guarded}
use Rattle.number.specs.declared.Reason.{Reason}

module _ {A B : Type 0} where
  -- b was accepted by way of what x accepted
  pub record Through (x : Answer A) (f : A → Answer B) (b : B) : Type 0 where
    pub value : A
    pub is : x ≡ Ok value
    pub onward : f value ≡ Ok b

  pub through : (x : Answer A) (f : A → Answer B) (b : B) → (x >>= f) ≡ Ok b → Through x f b
  through (Ok a) f b h = record { value = a; is = refl; onward = h }
  through (Err r) f b h = clash (cc)

-- what is made twice is made once
pub made_twice : {A B C : Type 0} (x : Answer A) (f : A → B) (g : B → C)
    → ((x >>= λ a. Ok (f a)) >>= λ b. Ok (g b)) ≡ (x >>= λ a. Ok (g (f a)))
made_twice (Ok a) f g = refl
made_twice (Err r) f g = refl

-- a number was accepted
pub was_number : (x : Result ℕ Reason) (r : Refusal) (n : ℕ) → or_refuse x r ≡ Ok n → Ok n ≡ x
was_number (Ok m) r n h = cc
was_number (Err why) r n h = clash (cc)

-- a value was accepted: it is short, well-formed, and its rules accept it
pub record Accepted {A : Type 0} (v : List ℕ) (x : Answer A) (a : A) : Type 0 where
  pub fits : length v ≤ 1024
  pub form : utf8_of v ≡ (Ok tt)
  pub is : x ≡ Ok a

pub was_accepted : {A : Type 0} (v : List ℕ) (x : Answer A) (a : A) → guarded v x ≡ Ok a → Accepted v x a
unfolding guarded
was_accepted v x a h =
    by_bool (ltb most_bytes (length v)) (λ e. clash (cc (simp e at h)))
    (λ e. go (utf8_of v) refl (ltb-false most_bytes (length v) e) (simp e at h))
  where
    go : (u : Result ⊤ ℕ) → utf8_of v ≡ u → length v ≤ 1024 → if_well u x ≡ Ok a → Accepted v x a
    go (Ok tt) e l h = record { fits = l; form = e; is = h }
    go (Err i) e l h = clash (cc)

-- a text that begins with w is w and what is left, and w with any text behind it begins with w
pub starts_cut : (w s : List ℕ) → starts w s ≡ true → w ++ drop (length w) s ≡ s
starts_cut w s h = ap (λ (l : List ℕ). l ++ drop (length w) s) (sym (same_eq (take (length w) s) w h)) ∙ take-append-drop (length w) s

pub starts_length : (w s : List ℕ) → starts w s ≡ true → length s ≡ length w + length (drop (length w) s)
starts_length w s h = sym (ap length (starts_cut w s h)) ∙ length-append w (drop (length w) s)

pub starts_append : (w t : List ℕ) → starts w (w ++ t) ≡ true
starts_append w t = rw (take_at w t (length w) refl) (same_refl w)

-- What is told of a text s that was read as what means m, where t is the text of m: t is at most `more` bytes longer, well-formed where s is,
-- and where it stands at the place `at` of a value w, to its end, it reads there as what means m.
pub record Told {A M : Type 0} (reader : ℕ → List ℕ → Answer A) (means : List ℕ → A → M) (more at : ℕ) (s t : List ℕ) (m : M) : Type 0 where
  pub short : length t ≤ length s + more
  pub form : utf8_of s ≡ (Ok tt) → utf8_of t ≡ (Ok tt)
  pub back : (w : List ℕ) → drop at w ≡ t → (reader at t >>= λ a. Ok (means w a)) ≡ Ok m

module _ {A B : Type 0} where
  -- b was made of what x accepted
  pub record Made (x : Answer A) (f : A → B) (b : B) : Type 0 where
    pub value : A
    pub is : x ≡ Ok value
    pub made : b ≡ f value

  pub was_made : (x : Answer A) (f : A → B) (b : B) → (x >>= λ a. Ok (f a)) ≡ Ok b → Made x f b
  was_made (Ok a) f b h = record { value = a; is = refl; made = cc }
  was_made (Err r) f b h = clash (cc)

  module _ {C : Type 0} where
    -- c was made of what x and then y accepted
    pub record MadeOfTwo (x : Answer A) (y : Answer B) (f : A → B → C) (c : C) : Type 0 where
      pub first : A
      pub second : B
      pub is_first : x ≡ Ok first
      pub is_second : y ≡ Ok second
      pub made : c ≡ f first second

    pub was_made_of_two : (x : Answer A) (y : Answer B) (f : A → B → C) (c : C) → (x >>= λ a. y >>= λ b. Ok (f a b)) ≡ Ok c
        → MadeOfTwo x y f c
    was_made_of_two (Ok a) (Ok b) f c h = record { first = a; second = b; is_first = refl; is_second = refl; made = cc }
    was_made_of_two (Ok a) (Err r) f c h = clash (cc)
    was_made_of_two (Err r) y f c h = clash (cc)

-- What was read as a, and is written as it was read, reads again as the same.
pub as_read : {A M : Type 0} {reader : ℕ → List ℕ → Answer A} {means : List ℕ → A → M} {at : ℕ} {s t : List ℕ} {m : M}
    → (a : A) → reader at s ≡ Ok a → t ≡ s → ((w : List ℕ) → drop at w ≡ s → means w a ≡ m) → Told reader means 0 at s t m
as_read a h e f =
    record {
      short = omega (arith, ap length e);
      form = λ k. rw e k;
      back = λ w q. rw (e, h) (ap Ok (f w (q ∙ e)));
    }

-- a value that is short and well-formed passes the guard
pub guarded_well : {A : Type 0} (s : List ℕ) (a : Answer A) → length s ≤ 1024 → utf8_of s ≡ (Ok tt) → guarded s a ≡ a
unfolding guarded
guarded_well s a h k = simp (le-ltb most_bytes (length s) h, k)

-- and one that is too long does not
pub guarded_long : {A : Type 0} (s : List ℕ) (a : Answer A) → 1024 < length s → guarded s a ≡ refuse 1 1024 (length s - 1024)
unfolding guarded
guarded_long s a h = simp (lt-ltb most_bytes (length s) h)

-- s is cut at its first b: x stands before it, with no b, and y behind it
pub record Cut (b : ℕ) (s x y : List ℕ) : Type 0 where
  pub free : before b x ≡ length x
  pub whole : x ++ b ∷ y ≡ s

pub cut : (b : ℕ) (s : List ℕ) → before b s < length s → Cut b s (take (before b s) s) (drop (before b s + 1) s)
cut b s h = record { free = before_take b s ∙ sym (before_length b s); whole = rw add-one (cut_first b s h) }

-- x with no b, b and y, joined: the first b is the one behind x
pub record Joined (b : ℕ) (x y : List ℕ) : Type 0 where
  pub first : before b (x ++ b ∷ y) ≡ length x
  pub found : ltb (length x) (length (x ++ b ∷ y)) ≡ true
  pub front : take (length x) (x ++ b ∷ y) ≡ x
  pub behind : drop (length x + 1) (x ++ b ∷ y) ≡ y

pub joined : (b : ℕ) (x y : List ℕ) → before b x ≡ length x → Joined b x y
joined b x y h =
    record {
      first = before_join b x y h;
      found = lt-ltb (length x) (length (x ++ b ∷ y)) (omega (arith, length-append x (b ∷ y)));
      front = take_at x (b ∷ y) (length x) refl;
      behind = drop_join x b y (length x) refl;
    }

-- reading it there, as what was accepted and what that means
pub back_through : {A M : Type 0} {reader : ℕ → List ℕ → Answer A} {means : List ℕ → A → M} {more at : ℕ} {s t : List ℕ} {m : M}
    → Told reader means more at s t m → (w : List ℕ) → drop at w ≡ t → Through (reader at t) (λ a. Ok (means w a)) m
back_through {A} {M} {reader} {means} {more} {at} {s} {t} {m} told w q = through (reader at t) (λ a. Ok (means w a)) m (told.back w q)

-- where the text s stands at the place `at` of a value v, to its end: what is left behind n bytes more, and the bytes of its front and of all of it
module _ (v : List ℕ) (at : ℕ) where
  pub further : (n : ℕ) (s : List ℕ) → drop at v ≡ s → drop (at + n) v ≡ drop n s
  further n s q = sym (drop-drop n at v) ∙ ap (drop n) q

  pub bytes_front : (x y : List ℕ) → drop at v ≡ x ++ y → bytes_at (place at (length x)) v ≡ x
  unfolding bytes_at
  bytes_front x y q = rw q (take_at x y (length x) refl)

  pub bytes_all : (s : List ℕ) → drop at v ≡ s → bytes_at (place at (length s)) v ≡ s
  unfolding bytes_at
  bytes_all s q = rw q (take-length s)
