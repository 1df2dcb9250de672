-- One law for each way out of this crate's functions, and those by which a caller uses its contracts. Assumes nothing.
use Prim.Native.Nat.{ℕ, ◌≤◌, ◌<◌}
use mathlib.Core.Path.{◌≡◌, refl, sym, ap, ◌∙◌}
use mathlib.Core.List.{List, [], ◌∷◌, ◌++◌, append_assoc}
use mathlib.Core.Bool.{Bool, true, false, not}
use native.Mathlib.Omega.{arith}
use lib.Dec.{ltb}
use lib.ListN.{length, take, drop, length-take}
use lib.Seq.{take_at}
use borrow.Author.Tests.{lt-ltb, le-ltb, le-leb, lt-leb, ltb-false}
use Rattle.text.specs.Word.{word, starts}
use Rattle.text.proofs.Bools.{by_bool, clash}
use Rattle.text.proofs.Cuts.{starts_front, starts_cut}
use Rattle.number.specs.Decimal.{decimal}
use Rattle.clock.specs.declared.Refusal.{Refusal}
use Rattle.room.specs.Put.{Put}
use Rattle.room.proofs.Laws.{put_then, put_length, put_front}
use Rattle.report.specs.declared.Kind.{Kind}
use Rattle.report.specs.declared.Kind.TheVariants.{Refused}
use Rattle.report.specs.Reply.{no_reply, reply_to}
use Rattle.briefreply.specs.declared.ReplySize.{ReplySize}
use Rattle.briefreply.specs.Gives.{with_front, Gives}
use Rattle.briefreply.specs.Plain.{plain, plain_reply}
use Rattle.briefreply.specs.Private.Known.{reply_of}

-- a text fits the room, or it does not
pub front_fits : (t room : List ℕ) → length t ≤ length room → with_front t room ≡ t ++ drop (length t) room
unfolding with_front
front_fits t room h = simp (le-leb (length t) (length room) h)

pub front_not : (t room : List ℕ) → length room < length t → with_front t room ≡ room
unfolding with_front
front_not t room h = simp (lt-leb (length t) (length room) h)

abbrev pub reply_size : Kind → ℕ → ReplySize
reply_size k n = record { kind = k; len = n }

-- `say`
module _ (k : Kind) (t room : List ℕ) where
  pub say_short : length room < length t → Gives (reply_of k t) room (reply_size k (length t)) room
  say_short h = record { kind = refl; len = refl; leaves = sym (front_not t room h) }

  pub say_put : (most next : ℕ) (after : List ℕ) → length t ≤ length room → Put most room 0 t next after
      → Gives (reply_of k t) room (reply_size k (length t)) after
  say_put most next after h p = record { kind = refl; len = refl; leaves = put_front p h ∙ sym (front_fits t room h) }

-- `put_number`
pub number_put : (n b at next last : ℕ) (l m r : List ℕ) → Put 20 l at (decimal n) next m → Put 1 m next (b ∷ []) last r
    → Put 21 l at (decimal n ++ b ∷ []) last r
number_put n b at next last l m r p q = put_then p q

-- `put_refusal`
pub refusal_put : (x : Refusal) (k : ℕ) → k ≡ x.number → (l m n o r : List ℕ) (a b c d : ℕ)
    → Put 3 l 0 (word "no ") a m
    → Put 21 m a (decimal k ++ 32 ∷ []) b n
    → Put 21 n b (decimal x.place.start ++ 32 ∷ []) c o
    → Put 21 o c (decimal x.place.len ++ 10 ∷ []) d r
    → Put 66 l 0 (no_reply x).says d r
unfolding no_reply
refusal_put x k e l m n o r a b c d p q s t =
    let first : Put 21 m a (decimal x.number ++ 32 ∷ []) b n = rw e at q in
    simp append_assoc (simp append_assoc at (put_then (put_then (put_then p first) s) t))

-- `reply_to_refusal`: the text stands in an array of 66 bytes
module _ (r : Refusal) (l m : List ℕ) (n : ℕ) (e : length l ≡ 66) (p : Put 66 l 0 (no_reply r).says n m) where
  refusal_text : take n m ≡ (no_reply r).says
  refusal_text =
      let k : n ≡ length (no_reply r).says = put_length p (omega arith) in
      ap (take n) (put_front p (omega (arith, p.bound))) ∙ take_at (no_reply r).says (drop (length (no_reply r).says) l) n (sym k)

  pub refusal_count : n ≡ length (take n m)
  refusal_count = rw refusal_text (put_length p (omega arith))

  pub refusal_said : (room : List ℕ) (x : ReplySize) (after : List ℕ) → Gives (reply_of Refused (take n m)) room x after
      → Gives (no_reply r) room x after
  unfolding no_reply
  refusal_said room x after q = rw refusal_text at q

-- `is_plain`: what it tells
module _ (l : List ℕ) where
  pub plain_long : (most : ℕ) → 4096 ≤ most → most < length l → false ≡ plain l
  unfolding plain
  plain_long most k h = simp (lt-ltb 4096 (length l) (omega arith))

  module _ (h : length l ≤ 4096) (s : Bool) (es : s ≡ starts (word "a=t") l) where
    pub plain_ts : s ≡ true → false ≡ plain l
    unfolding plain
    plain_ts e = simp (le-ltb 4096 (length l) h, ← es, e)

    pub plain_last : s ≡ false → (m : Bool) → m ≡ starts (word "a=m") l → not m ≡ plain l
    unfolding plain
    plain_last e m em = simp (le-ltb 4096 (length l) h, ← es, e, em)

plain_cases : {P : Type 0} (l : List ℕ) → plain l ≡ true
    → (ltb 4096 (length l) ≡ false → starts (word "a=t") l ≡ false → starts (word "a=m") l ≡ false → P) → P
unfolding plain
plain_cases l e f =
    by_bool (ltb 4096 (length l)) (λ a. clash (cc (simp a at e)))
    (λ a. by_bool (starts (word "a=t") l) (λ b. clash (cc (simp (a, b) at e)))
    (λ b. by_bool (starts (word "a=m") l) (λ c. clash (cc (simp (a, b, c) at e))) (λ c. f a b c)))

pub plain_reply_lem : (l : List ℕ) → plain l ≡ true → reply_to l ≡ plain_reply
unfolding reply_to
plain_reply_lem l e =
    plain_cases l e
    (λ a b c. simp (a, starts_front (word "a=t") (word "s-refclk:") l b, starts_front (word "a=m") (word "ediaclk:") l c))

pub plain_cut : (l : List ℕ) (k : ℕ) → plain l ≡ true → plain (take k l) ≡ true
unfolding plain
plain_cut l k e =
    plain_cases l e
    (λ a b c.
    simp (le-ltb 4096 (length (take k l)) (omega (arith, length-take k l, ltb-false 4096 (length l) a)), starts_cut (word "a=t") l k b, starts_cut (word "a=m") l k c))

pub ruleset laws = (
  say_short,
  say_put,
  number_put,
  refusal_put,
  refusal_count,
  refusal_said,
  plain_long,
  plain_ts,
  plain_last,
)
