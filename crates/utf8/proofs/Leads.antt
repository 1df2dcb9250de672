-- UTF8-char by its first byte: a table of the grammar's nine forms. Where no form's range of first bytes ends inside a zone, every byte of
-- the zone is followed by what follows its least byte, where antt computes. Assumes nothing.
use Rattle.std.specs.Prelude.{Option, Some}
use Prim.Native.Nat.{ℕ, ◌≤◌, ◌<◌}
use mathlib.Core.Path.{◌≡◌, refl, ◌∙◌}
use mathlib.Core.List.{List, [], ◌∷◌}
use mathlib.Core.Bool.{Bool, true, false, ◌&&◌, ◌||◌, cond, and-false, or-false, or_assoc}
use native.Mathlib.Omega.{arith}
use lib.Dec.{leb, ltb}
use borrow.Author.Tests.{ltb-true, leb-true, le-leb, lt-leb}
use Rattle.text.proofs.Bools.{and_left, and_right}
use Rattle.abnf.specs.Rule.{Rule, nothing, ◌or◌}
use Rattle.abnf.proofs.Rules.{range_first, range_then}
use Rattle.utf8.specs.declared.Lead.{Lead}
use Rattle.utf8.specs.Utf8.{utf8_char}
use Rattle.utf8.specs.Private.Lead.{tails, goes_on}

-- a form of UTF8-char: a first byte from low to high, and `more` bytes behind it, the first of them from lo to hi
pub record Form : Type 0 where
  pub low : ℕ
  pub high : ℕ
  pub more : ℕ
  pub lo : ℕ
  pub hi : ℕ

abbrev form : ℕ → ℕ → ℕ → ℕ → ℕ → Form
form low high more lo hi = record { low = low; high = high; more = more; lo = lo; hi = hi }

abbrev pub forms : List Form
forms =
    form 0x00 0x7F 0 0x80 0xBF
    ∷ form 0xC2 0xDF 1 0x80 0xBF
    ∷ form 0xE0 0xE0 2 0xA0 0xBF
    ∷ form 0xE1 0xEC 2 0x80 0xBF
    ∷ form 0xED 0xED 2 0x80 0x9F
    ∷ form 0xEE 0xEF 2 0x80 0xBF
    ∷ form 0xF0 0xF0 3 0x90 0xBF
    ∷ form 0xF1 0xF3 3 0x80 0xBF
    ∷ form 0xF4 0xF4 3 0x80 0x8F
    ∷ []

abbrev holds : Form → ℕ → Bool
holds f b = leb f.low b && leb b f.high

-- what a text of one of the forms goes on with after the byte b
unfoldable pub after : List Form → ℕ → Rule
after [] b t = false
after (f ∷ fs) b t = (holds f b && tails f.more f.lo f.hi t) || after fs b t

pub char_after : (b : ℕ) (t : List ℕ) → utf8_char (b ∷ t) ≡ after forms b t
unfolding utf8_char after ◌or◌
char_after b t = simp (range_first, range_then, or-false, or_assoc)

-- the form's first bytes are all of a to z, or nothing of it
abbrev settled : ℕ → ℕ → Form → Bool
settled a z f = cond (leb f.low a) (leb z f.high || ltb f.high a) (ltb z f.low)

settled_holds : (a z b : ℕ) (f : Form) → a ≤ b → b ≤ z → settled a z f ≡ true → holds f b ≡ holds f a
settled_holds a z b f p q h = go (leb f.low a) (leb z f.high) refl refl h
  where
    go : (t u : Bool) → leb f.low a ≡ t → leb z f.high ≡ u
        → cond t (u || ltb f.high a) (ltb z f.low) ≡ true → holds f b ≡ holds f a
    go true true e k h =
        let m = leb-true f.low a e in
        let n = leb-true z f.high k in
        simp (
          le-leb f.low b (omega arith),
          le-leb b f.high (omega arith),
          le-leb f.low a (omega arith),
          le-leb a f.high (omega arith),
        )
    go true false e k h =
        let m = ltb-true f.high a h in
        simp (lt-leb b f.high (omega arith), lt-leb a f.high (omega arith), and-false)
    go false u e k h =
        let m = ltb-true z f.low h in
        simp (lt-leb f.low b (omega arith), lt-leb f.low a (omega arith))

abbrev pub zone : ℕ → ℕ → List Form → Bool
zone a z [] = true
zone a z (f ∷ fs) = settled a z f && zone a z fs

after_zone : (a z b : ℕ) (fs : List Form) → a ≤ b → b ≤ z → zone a z fs ≡ true → (t : List ℕ) → after fs b t ≡ after fs a t
unfolding after
after_zone a z b [] p q h t = refl
after_zone a z b (f ∷ fs) p q h t =
    rw (
      settled_holds a z b f p q (and_left (settled a z f) (zone a z fs) h),
      after_zone a z b fs p q (and_right (settled a z f) (zone a z fs) h) t,
    )

-- all of a zone goes on alike
pub lead_zone : (a z : ℕ) {b : ℕ} {g : Rule} → zone a z forms ≡ true → a ≤ b → b ≤ z
    → ((t : List ℕ) → after forms a t ≡ g t) → (t : List ℕ) → utf8_char (b ∷ t) ≡ g t
lead_zone a z {b} h p q e t = char_after b t ∙ (after_zone a z b forms p q h t ∙ e t)

-- a row of the grammar, as the code answers it
pub lead_row : (a z : ℕ) {b : ℕ} (lead : Lead) (l : Option Lead) → zone a z forms ≡ true → a ≤ b → b ≤ z → l ≡ Some lead
    → ((t : List ℕ) → after forms a t ≡ goes_on (Some lead) t) → (t : List ℕ) → utf8_char (b ∷ t) ≡ goes_on l t
lead_row a z lead l h p q e f t = rw e (lead_zone a z h p q f t)

-- a byte below 128 is a whole UTF8-char
pub ascii_whole : (c : ℕ) → c < 128 → (t : List ℕ) → utf8_char (c ∷ t) ≡ nothing t
unfolding after
ascii_whole c h = lead_zone 0x00 0x7F refl (omega arith) (omega arith) (λ t. or-false (nothing t))
