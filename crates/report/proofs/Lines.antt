-- Laws of the lines of a text: how they go on, what the first LF ends, and that the first 4,098 bytes of a line decide. Assumes nothing.
use Prim.Native.Nat.{ℕ, zero, suc, ◌+◌, ◌≤◌, ◌<◌}
use mathlib.Core.Path.{◌≡◌, refl, sym, ap, ◌∙◌}
use mathlib.Core.List.{List, [], ◌∷◌, ◌++◌, append-nil}
use native.Mathlib.Omega.{arith}
use lib.Dec.{eqb, ltb}
use lib.ListN.{length, take, drop, length-take}
use lib.Seq.{append_snoc, take_all, take-take}
use borrow.Author.Tests.{lt-ltb, ltb-true, ltb-false}
use Rattle.text.specs.Find.{before}
use Rattle.text.specs.Word.{word, ends_in}
use Rattle.text.proofs.Bools.{by_bool}
use Rattle.report.specs.Lines.{without_cr, ended_from, open_from, last_line}
use Rattle.report.specs.Reply.{reply, reply_to}
use Rattle.report.specs.Reader.{joined}
use Rattle.report.specs.declared.Kind.TheVariants.{Long}

-- a text and then another
pub open_append : (begun s t : List ℕ) → open_from begun (s ++ t) ≡ open_from (open_from begun s) t
unfolding open_from
open_append begun [] t = refl
open_append begun (b ∷ s) t =
    by_bool (eqb b 10) (λ e. simp e (open_append [] s t)) (λ e. simp e (open_append (begun ++ b ∷ []) s t))

pub ended_append : (begun s t : List ℕ) → ended_from begun (s ++ t) ≡ ended_from begun s ++ ended_from (open_from begun s) t
unfolding open_from ended_from
ended_append begun [] t = refl
ended_append begun (b ∷ s) t =
    by_bool (eqb b 10) (λ e. simp e (ap (λ (ls : List (List ℕ)). without_cr begun ∷ ls) (ended_append [] s t)))
    (λ e. simp e (ended_append (begun ++ b ∷ []) s t))

-- the first LF ends a line, and what is behind it begins anew
pub ended_first : (begun s : List ℕ) → before 10 s < length s
    → ended_from begun s ≡ without_cr (begun ++ take (before 10 s) s) ∷ ended_from [] (drop (suc (before 10 s)) s)
unfolding ended_from before
ended_first begun [] h = absurd (omega arith)
ended_first begun (b ∷ s) h =
    by_bool (eqb b 10) (λ e. simp (e, append-nil))
    (λ e. simp e (ended_first (begun ++ b ∷ []) s (omega (arith, simp e at h)) ∙ simp append_snoc))

pub open_first : (begun s : List ℕ) → before 10 s < length s → open_from begun s ≡ open_from [] (drop (suc (before 10 s)) s)
unfolding open_from before
open_first begun [] h = absurd (omega arith)
open_first begun (b ∷ s) h =
    by_bool (eqb b 10) (λ e. simp e) (λ e. simp e (open_first (begun ++ b ∷ []) s (omega (arith, simp e at h))))

-- no LF
pub ended_none : (begun s : List ℕ) → length s ≤ before 10 s → ended_from begun s ≡ []
unfolding ended_from before
ended_none begun [] h = refl
ended_none begun (b ∷ s) h =
    by_bool (eqb b 10) (λ e. absurd (omega (arith, simp e at h)))
    (λ e. simp e (ended_none (begun ++ b ∷ []) s (omega (arith, simp e at h))))

pub open_none : (begun s : List ℕ) → length s ≤ before 10 s → open_from begun s ≡ begun ++ s
unfolding open_from before
open_none begun [] h = sym (append-nil begun)
open_none begun (b ∷ s) h =
    by_bool (eqb b 10) (λ e. absurd (omega (arith, simp e at h)))
    (λ e. simp e (open_none (begun ++ b ∷ []) s (omega (arith, simp e at h)) ∙ append_snoc begun b s))

-- at most one byte is dropped
without_long : (l : List ℕ) → length l ≤ length (without_cr l) + 1
unfolding without_cr
without_long l = by_bool (ends_in 13 l) (λ e. simp (e, length-take) (omega arith)) (λ e. simp e (omega arith))

pub without_short : (l : List ℕ) → length (without_cr l) ≤ length l
unfolding without_cr
without_short l = by_bool (ends_in 13 l) (λ e. simp (e, length-take) (omega arith)) (λ e. simp e (omega arith))

-- and none of the last line
pub last_whole : (l : List ℕ) → joined (last_line l) ≡ l
unfolding joined last_line
last_whole [] = refl
last_whole (b ∷ l) = append-nil (b ∷ l)

-- two lines that have their first 4,098 bytes in common: they are one line, or both are long
alike : (p q : List ℕ) → take 4098 p ≡ take 4098 q → length p < 4098 → p ≡ q
alike p q h l =
    let k : length q < 4098 = omega (arith, length-take 4098 p, length-take 4098 q, ap length h) in
    sym (take_all 4098 p (omega arith)) ∙ h ∙ take_all 4098 q (omega arith)

pub reply_long : (l : List ℕ) → 4096 < length l → reply_to l ≡ reply Long (word "long")
unfolding reply_to
reply_long l h = simp (lt-ltb 4096 (length l) h)

module _ (p q : List ℕ) (h : take 4098 p ≡ take 4098 q) where
  as_long : 4098 ≤ length p → 4098 ≤ length q
  as_long l = omega (arith, length-take 4098 p, length-take 4098 q, ap length h)

  pub ended_alike : reply_to (without_cr p) ≡ reply_to (without_cr q)
  ended_alike =
      by_bool (ltb (length p) 4098) (λ e. ap (λ (l : List ℕ). reply_to (without_cr l)) (alike p q h (ltb-true (length p) 4098 e)))
      (λ e.
      let l : 4098 ≤ length p = ltb-false (length p) 4098 e in
      reply_long (without_cr p) (omega (arith, without_long p))
      ∙ sym (reply_long (without_cr q) (omega (arith, without_long q, as_long l))))

  pub last_alike : reply_to p ≡ reply_to q
  last_alike =
      by_bool (ltb (length p) 4098) (λ e. ap reply_to (alike p q h (ltb-true (length p) 4098 e)))
      (λ e.
      let l : 4098 ≤ length p = ltb-false (length p) 4098 e in
      reply_long p (omega arith) ∙ sym (reply_long q (omega (arith, as_long l))))

-- the same of a line that goes on
cut_append : (n : ℕ) (p x : List ℕ) → take n (p ++ x) ≡ take n (take n p ++ x)
cut_append zero p x = refl
cut_append (suc n) [] x = refl
cut_append (suc n) (a ∷ p) x = ap (λ (y : List ℕ). a ∷ y) (cut_append n p x)

pub more_alike : (p q x : List ℕ) → take 4098 p ≡ take 4098 q → take 4098 (p ++ x) ≡ take 4098 (q ++ x)
more_alike p q x h = cut_append 4098 p x ∙ ap (λ (y : List ℕ). take 4098 (y ++ x)) h ∙ sym (cut_append 4098 q x)

pub first_alike : (p : List ℕ) → take 4098 (take 4098 p) ≡ take 4098 p
first_alike p = take-take 4098 4098 p (omega arith)

pub open_alike : (p q s : List ℕ) → take 4098 p ≡ take 4098 q → take 4098 (open_from p s) ≡ take 4098 (open_from q s)
unfolding open_from
open_alike p q [] h = h
open_alike p q (b ∷ s) h =
    by_bool (eqb b 10) (λ e. simp e) (λ e. simp e (open_alike (p ++ b ∷ []) (q ++ b ∷ []) s (more_alike p q (b ∷ []) h)))
