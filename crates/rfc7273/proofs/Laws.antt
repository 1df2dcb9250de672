-- Laws of the narrowed grammar: how its texts come apart and are put together, and which bytes they lack. Assumes nothing.
use Rattle.std.specs.Prelude.{Ok}
use Prim.Native.Nat.{ℕ, suc, ◌≤◌, ◌<◌}
use Prim.Native.String.{String}
use mathlib.Core.Path.{◌≡◌, refl, sym, ap, ◌∙◌}
use mathlib.Core.Bool.{Bool, true, false, ◌&&◌, not, and-false}
use mathlib.Core.List.{List, [], ◌∷◌, ◌++◌, append-nil, map}
use native.Mathlib.Omega.{arith}
use lib.Dec.{leb, ltb}
use lib.ListN.{length, take, drop}
use borrow.Author.Tests.{ltb-true, ltb-false, eqb-true, eq-eqb, ne_eqb, lt-leb}
use Rattle.text.specs.Find.{before}
use Rattle.text.specs.Word.{word, same}
use Rattle.text.proofs.Ascii.{ascii}
use Rattle.text.proofs.Bools.{by_bool, clash, both, and_left, and_right, or_elim, or_left, or_right}
use Rattle.text.proofs.Cuts.{same_eq, same_refl, before_le, cut_first}
use Rattle.abnf.specs.Rule.{Rule, nothing, range, byte, ◌or◌, ◌then◌, maybe}
use Rattle.abnf.proofs.Rules.{byte_is, then_split, then_join}
use Rattle.abnf.proofs.Free.{Lacks, All, none, more, lacks_all}
use Rattle.abnf.proofs.Sizes.{count_of, count_append}
use Rattle.utf8.specs.Utf8.{utf8_of}
use Rattle.utf8.proofs.Text.{utf8_all_ascii}
use Rattle.meaning.specs.Answer.{Answer}
use Rattle.rfc7273.specs.Manner.{narrowed, only_in, small, either_case, quoted}

-- x accepts what means m
pub record Reads {A M : Type 0} (x : Answer A) (means : A → M) (m : M) : Type 0 where
  pub made : A
  pub is : x ≡ Ok made
  pub tells : means made ≡ m

-- how a text comes apart: what holds of all that its rule is made of holds of it
module _ (P : List ℕ → Type 0) where
  pub of_then : (p q : Rule) → ((x y : List ℕ) → p x ≡ true → q y ≡ true → P (x ++ y)) → (s : List ℕ) → (p then q) s ≡ true → P s
  of_then p q f s h = let k = then_split p q s h in rw k.is at (f k.front k.back k.first k.second)

  pub of_or : {p q : Rule} → ((s : List ℕ) → p s ≡ true → P s) → ((s : List ℕ) → q s ≡ true → P s) → (s : List ℕ) → (p or q) s ≡ true → P s
  unfolding ◌or◌
  of_or {p} {q} f g s h = or_elim (p s) (q s) (f s) (g s) h

  pub of_nothing : P [] → (s : List ℕ) → nothing s ≡ true → P s
  unfolding nothing
  of_nothing f [] h = f
  of_nothing f (x ∷ s) h = clash (cc)

  pub of_maybe : {p : Rule} → P [] → ((s : List ℕ) → p s ≡ true → P s) → (s : List ℕ) → maybe p s ≡ true → P s
  of_maybe f g = of_or (of_nothing f) g

  pub of_byte : (c : ℕ) → P (c ∷ []) → (s : List ℕ) → byte c s ≡ true → P s
  unfolding range
  of_byte c f [] h = clash (cc)
  of_byte c f (x ∷ []) h = let e : c ≡ x = sym (eqb-true x c (sym (byte_is c x) ∙ h)) in rw e at f
  of_byte c f (x ∷ y ∷ s) h = clash (cc)

  pub of_only : {p q : Rule} → ((s : List ℕ) → p s ≡ true → q s ≡ true → P s) → (s : List ℕ) → only_in narrowed p q s ≡ true → P s
  unfolding only_in
  of_only {p} {q} f s h = f s (and_left (p s) (q s) h) (and_right (p s) (q s) h)

  pub of_quoted : (w : String) → P (word w) → (s : List ℕ) → quoted narrowed w s ≡ true → P s
  unfolding quoted
  of_quoted w f = of_only (λ s h k. rw (sym (same_eq s (word w) k)) at f)

-- a word or a byte, and what stands behind it
module _ (P : List ℕ → Type 0) (q : Rule) where
  pub of_quoted_then : (w : String) → ((y : List ℕ) → q y ≡ true → P (word w ++ y)) → (s : List ℕ) → (quoted narrowed w then q) s ≡ true → P s
  of_quoted_then w f = of_then P (quoted narrowed w) q (λ x y h k. of_quoted (λ z. P (z ++ y)) w (f y k) x h)

  pub of_byte_then : (c : ℕ) → ((y : List ℕ) → q y ≡ true → P (c ∷ y)) → (s : List ℕ) → (byte c then q) s ≡ true → P s
  of_byte_then c f = of_then P (byte c) q (λ x y h k. of_byte (λ z. P (z ++ y)) c (f y k) x h)

-- and how texts are put together
pub then_empty : (p q : Rule) (x : List ℕ) → p x ≡ true → q [] ≡ true → (p then q) x ≡ true
then_empty p q x h k = rw (append-nil x) at (then_join p q x [] h k)

pub or_first : (p q : Rule) (s : List ℕ) → p s ≡ true → (p or q) s ≡ true
unfolding ◌or◌
or_first p q s h = or_left (q s) h

pub or_second : (p q : Rule) (s : List ℕ) → q s ≡ true → (p or q) s ≡ true
unfolding ◌or◌
or_second p q s h = or_right (p s) h

pub quoted_own : (w : String) → quoted narrowed w (word w) ≡ true
unfolding quoted only_in
quoted_own w = both (same_refl (map small (word w))) (same_refl (word w))

pub quoted_then : (w : String) (q : Rule) (y : List ℕ) → q y ≡ true → (quoted narrowed w then q) (word w ++ y) ≡ true
quoted_then w q y h = then_join (quoted narrowed w) q (word w) y (quoted_own w) h

pub byte_then : (c : ℕ) (q : Rule) (y : List ℕ) → q y ≡ true → (byte c then q) (c ∷ y) ≡ true
unfolding range
byte_then c q y h = then_join (byte c) q (c ∷ []) y (byte_is c c ∙ eq-eqb c c refl) h

count_in : (c : ℕ) (s t : List ℕ) → 0 < count_of c (s ++ c ∷ t)
unfolding count_of
count_in c s t = omega (arith, count_append c s (c ∷ t), here)
  where
    here : 0 < count_of c (c ∷ t)
    here = simp (eq-eqb c c refl) (omega arith)

-- bytes that no text has
module _ {c : ℕ} where
  pub lacks_quoted : (w : String) → count_of c (word w) ≡ 0 → Lacks c (quoted narrowed w)
  unfolding quoted only_in
  lacks_quoted w h =
      record {
        free = λ s t.
            by_bool (same (s ++ c ∷ t) (word w)) (λ e. absurd (omega (arith, count_in c s t, ap (count_of c) (same_eq (s ++ c ∷ t) (word w) e))))
            (λ e. rw e (and-false (either_case (word w) (s ++ c ∷ t))));
      }

  -- a text of a rule that lacks c
  pub lacks_before : {p : Rule} → Lacks c p → (s : List ℕ) → p s ≡ true → before c s ≡ length s
  lacks_before {p} f s h =
      by_bool (ltb (before c s) (length s))
      (λ e. clash (cc (f.free (take (before c s) s) (drop (suc (before c s)) s), ap p (cut_first c s (ltb-true (before c s) (length s) e)))))
      (λ e. omega (arith, before_le c s, ltb-false (before c s) (length s) e))

-- bytes from 128 on
module _ (c : ℕ) (h : 128 ≤ c) where
  pub high_range : (a z : ℕ) → ltb z 128 ≡ true → (leb a c && leb c z) ≡ false
  high_range a z k = rw (lt-leb c z (omega (arith, ltb-true z 128 k))) (and-false (leb a c))

  pub high_word : (w : List ℕ) → ascii w ≡ true → count_of c w ≡ 0
  unfolding count_of
  high_word [] k = refl
  high_word (b ∷ w) k =
      simp (ne_eqb b c (λ e. omega (arith, ltb-true b 128 (and_left (ltb b 128) (ascii w) k))), high_word w (and_right (ltb b 128) (ascii w) k))

-- a rule whose texts have none of them
abbrev pub Low : Rule → Type 0
Low p = (c : ℕ) → 128 ≤ c → Lacks c p

pub low_well : {p : Rule} → Low p → (s : List ℕ) → p s ≡ true → utf8_of s ≡ (Ok tt)
low_well {p} f s h = utf8_all_ascii s (go s (lacks_all (λ b. ltb b 128) p (λ c e. (f c (ltb-false c 128 e)).free) s h))
  where
    go : (s : List ℕ) → All (λ b. ltb b 128) s → ascii s ≡ true
    go [] none = refl
    go (b ∷ s) (more e r) = both e (go s r)

-- a rule that has no empty text
pub never_empty : (p : Rule) → p [] ≡ false → (s : List ℕ) → p s ≡ true → 0 < length s
never_empty p e [] h = clash (cc)
never_empty p e (x ∷ s) h = omega arith

-- what is not so
pub not_so : (b : Bool) → not b ≡ true → b ≡ false
not_so true h = clash (cc)
not_so false h = refl
