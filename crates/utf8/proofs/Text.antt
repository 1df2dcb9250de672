-- Laws for callers: texts joined, and cut at a byte below 128, stay well-formed, since such a byte is a UTF8-char and stands in no longer one.
-- Assumes nothing.
use Rattle.std.specs.Prelude.{Ok, Err}
use Prim.Native.Nat.{ℕ, zero, suc, ◌<◌}
use mathlib.Core.Path.{◌≡◌, refl, sym, ap, ◌∙◌, fun_ext}
use mathlib.Core.List.{List, [], ◌∷◌, ◌++◌}
use mathlib.Core.Bool.{Bool, true, ◌&&◌, and-false}
use native.Mathlib.Omega.{arith}
use lib.Dec.{leb, ltb}
use lib.ListN.{length}
use borrow.Author.Tests.{ltb-true, leb-true, lt-leb, eqb-false}
use Rattle.text.proofs.Ascii.{ascii}
use Rattle.text.proofs.Bools.{by_bool, clash, and_left, and_right}
use Rattle.abnf.specs.Rule.{Rule, nothing, ◌then_many◌, longest}
use Rattle.abnf.proofs.Rules.{Free}
use Rattle.abnf.proofs.Free.{Lacks, lacks_nothing, lacks_range, lacks_then}
use Rattle.abnf.proofs.Many.{many_cons, many_append, Alone, many_cut}
use Rattle.abnf.proofs.Longest.{longest_le, longest_all}
use Rattle.utf8.specs.Utf8.{utf8_char, utf8_octets, utf8_of}
use Rattle.utf8.specs.Private.Lead.{tails}
use Rattle.utf8.proofs.Leads.{Form, forms, after, char_after, ascii_whole}

-- well-formed is a text of UTF8-octets, and nothing else
pub well_octets : (s : List ℕ) → utf8_of s ≡ (Ok tt) → utf8_octets s ≡ true
unfolding utf8_of
well_octets s h = by_bool (utf8_octets s) (λ e. e) (λ e. clash (cc (simp e at h)))

pub octets_well : (s : List ℕ) → utf8_octets s ≡ true → utf8_of s ≡ (Ok tt)
unfolding utf8_of
octets_well s h = simp h

-- the ill-formed sequence starts inside the text
pub utf8_ill : (s : List ℕ) (n : ℕ) → utf8_of s ≡ Err n → n < length s
unfolding utf8_of ◌then_many◌ nothing
utf8_ill s n h =
    by_bool (utf8_octets s) (λ e. clash (cc (simp e at h)))
    (λ e.
    let k : longest utf8_octets s ≡ n = cc (simp e at h) in
    let d = eqb-false (longest utf8_octets s) (length s) (sym (longest_all utf8_octets refl s) ∙ e) in
    omega (arith, longest_le utf8_octets s))

-- a byte below 128 is no byte behind a first one
tails_lack : (c n lo hi : ℕ) → c < lo → c < 128 → Lacks c (tails n lo hi)
tails_lack c zero lo hi h k = lacks_nothing
tails_lack c (suc zero) lo hi h k = lacks_range lo hi (simp (lt-leb lo c h))
tails_lack c (suc (suc n)) lo hi h k =
    lacks_then (lacks_range lo hi (simp (lt-leb lo c h))) (tails_lack c (suc n) 0x80 0xBF k k)

abbrev high : List Form → Bool
high [] = true
high (f ∷ fs) = leb 128 f.lo && high fs

after_free : (c a : ℕ) (fs : List Form) → c < 128 → high fs ≡ true → Free c (after fs a)
unfolding after
after_free c a [] h k s t = refl
after_free c a (f ∷ fs) h k s t =
    let l = leb-true 128 f.lo (and_left (leb 128 f.lo) (high fs) k) in
    simp (
      (tails_lack c f.more f.lo f.hi (omega arith) h).free s t,
      and-false,
      after_free c a fs h (and_right (leb 128 f.lo) (high fs) k) s t,
    )

ascii_alone : (c : ℕ) → c < 128 → Alone c utf8_char
ascii_alone c h =
    record { whole = ascii_whole c h; behind = λ a s t. char_after a (s ++ c ∷ t) ∙ after_free c a forms h refl s t }

ascii_front : (b : ℕ) (s : List ℕ) → b < 128 → utf8_octets (b ∷ s) ≡ utf8_octets s
ascii_front b s h = many_cons utf8_char b s ∙ ap (λ (r : Rule). (r then_many utf8_char) s) (fun_ext (ascii_whole b h))

pub utf8_none : utf8_of [] ≡ (Ok tt)
unfolding ◌then_many◌ nothing
utf8_none = octets_well [] refl

pub utf8_ascii : (b : ℕ) (s : List ℕ) → b < 128 → utf8_of s ≡ (Ok tt) → utf8_of (b ∷ s) ≡ (Ok tt)
utf8_ascii b s h e = octets_well (b ∷ s) (ascii_front b s h ∙ well_octets s e)

pub utf8_append : (x y : List ℕ) → utf8_of x ≡ (Ok tt) → utf8_of y ≡ (Ok tt) → utf8_of (x ++ y) ≡ (Ok tt)
utf8_append x y e f = octets_well (x ++ y) (many_append utf8_char nothing x y (well_octets x e) (well_octets y f))

pub utf8_cut : (x : List ℕ) (c : ℕ) (y : List ℕ) → c < 128 → utf8_of (x ++ c ∷ y) ≡ (Ok tt) → (utf8_of x ≡ (Ok tt)) × (utf8_of y ≡ (Ok tt))
utf8_cut x c y h e =
    let p = many_cut c utf8_char nothing (ascii_alone c h) lacks_nothing.free x y (well_octets (x ++ c ∷ y) e) in
    (octets_well x p.0, octets_well y p.1)

-- a text of bytes below 128
pub utf8_all_ascii : (s : List ℕ) → ascii s ≡ true → utf8_of s ≡ (Ok tt)
utf8_all_ascii [] h = utf8_none
utf8_all_ascii (b ∷ s) h =
    utf8_ascii b s (ltb-true b 128 (and_left (ltb b 128) (ascii s) h)) (utf8_all_ascii s (and_right (ltb b 128) (ascii s) h))
