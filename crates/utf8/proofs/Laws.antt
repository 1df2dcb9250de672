-- One law for each way out of the two loops, and their invariants: the longest well-formed front of all is the one that going on from
-- here finds. Assumes nothing.
use Rattle.std.specs.Prelude.{Option, Some, None, Ok, Err}
use Prim.Native.Nat.{ℕ, zero, suc, ◌+◌, ◌-◌, ◌≤◌, ◌<◌}
use mathlib.Core.Path.{◌≡◌, refl, sym, ap, ◌∙◌, fun_ext}
use mathlib.Core.List.{List, [], ◌∷◌}
use mathlib.Core.Bool.{Bool, true, false, ◌&&◌, and-false}
use native.Mathlib.Omega.{arith}
use native.Mathlib.Numerals.{sub-one}
use lib.Dec.{leb, eqb}
use lib.ListN.{length, drop, get_or, length-drop}
use lib.Seq.{drop-drop}
use borrow.Author.Tests.{le-leb, lt-leb, leb-false, eq-eqb, ne_eqb}
use Rattle.text.proofs.Left.{rest, rest_is, next_byte, none_left, Passed, passed_none, passed_all, passed_more, any_of, passed_run}
use Rattle.abnf.specs.Rule.{Rule, nothing, range, ◌then◌, ◌then_many◌, longest}
use Rattle.abnf.proofs.Rules.{range_then}
use Rattle.abnf.proofs.Many.{many_none, many_cons, then_many_lem, range_many}
use Rattle.abnf.proofs.Longest.{furthest, furthest_more, furthest_end, furthest_none, furthest_on, longest_all}
use Rattle.utf8.specs.declared.Lead.{Lead}
use Rattle.utf8.specs.Utf8.{utf8_char, utf8_octets, utf8_of}
use Rattle.utf8.specs.Private.Lead.{tails, goes_on}
use Rattle.utf8.specs.Private.Passes.{Passes, IsFirstHigh, BeginsWith}
use Rattle.std.specs.List.{AllWithin}
use Rattle.utf8.proofs.Leads.{ascii_whole}

-- the bytes behind a first one, and whole sequences behind them
abbrev onward : ℕ → ℕ → ℕ → Rule
onward left low high = tails left low high then_many utf8_char

onward_cons : (left low high x : ℕ) (s : List ℕ) → 0 < left
    → onward left low high (x ∷ s) ≡ (leb low x && leb x high) && onward (left - 1) 0x80 0xBF s
onward_cons zero low high x s h = absurd (omega arith)
onward_cons (suc zero) low high x s h = range_many utf8_char low high x s
onward_cons (suc (suc n)) low high x s h =
    rw (sub-one (suc (suc n)))
    (then_many_lem utf8_char (range low high) (tails (suc n) 0x80 0xBF) (x ∷ s)
    ∙ range_then low high (onward (suc n) 0x80 0xBF) x s)

onward_nil : (left low high : ℕ) → 0 < left → onward left low high [] ≡ false
unfolding ◌then_many◌ ◌then◌ range
onward_nil zero low high h = absurd (omega arith)
onward_nil (suc zero) low high h = refl
onward_nil (suc (suc n)) low high h = refl

-- the loop over the sequences: all before `at` is well-formed
pub check_start : (s : List ℕ) → Passed (longest utf8_octets) s 0
check_start s = passed_none (longest utf8_octets) s

-- the loop over the bytes behind a first one: `next` bytes are passed, the longest well-formed front so far is `at`
pub record Tails (s : List ℕ) (at low high left next : ℕ) : Type 0 where
  pub begun : at < next
  pub within : next ≤ length s
  pub so_far : longest utf8_octets s ≡ furthest next at (onward left low high) (drop next s)

module _ {s : List ℕ} {at : ℕ} (p : Passed (longest utf8_octets) s at) where
  pub check_end : length s ≤ at → at ≡ longest utf8_octets s
  unfolding longest
  check_end h = passed_all p (ap (longest utf8_octets) (none_left s at h))

  module _ (l : Option Lead) (h : at < length s) (e : (t : List ℕ) → utf8_char (get_or s at 0 ∷ t) ≡ goes_on l t) where
    led : longest utf8_octets s ≡ furthest (at + 1) at (goes_on l then_many utf8_char) (drop (at + 1) s)
    unfolding furthest ◌then_many◌ nothing
    led =
        p.so_far
        ∙ (sym (furthest_on at at utf8_octets (drop at s) refl)
        ∙ (ap (furthest at at utf8_octets) (next_byte s at h)
        ∙ (ap (λ (r : Rule). furthest (at + 1) at r (drop (at + 1) s)) (fun_ext (many_cons utf8_char (get_or s at 0)))
        ∙ ap (λ (r : Rule). furthest (at + 1) at (r then_many utf8_char) (drop (at + 1) s)) (fun_ext e))))

    pub check_never : l ≡ None → at ≡ longest utf8_octets s
    check_never n =
        sym (rw n at led ∙ furthest_none (at + 1) at _ (many_none utf8_char (goes_on None) (λ t. refl)) (drop (at + 1) s))

    pub tails_start : (lead : Lead) → l ≡ Some lead → Tails s at lead.low lead.high lead.more (at + 1)
    tails_start lead n = record { begun = omega arith; within = omega arith; so_far = rw n at led }

module _ {s : List ℕ} {at low high left next : ℕ} (t : Tails s at low high left next) where
  pub tails_short : 0 < left → length s ≤ next → at ≡ longest utf8_octets s
  tails_short h l =
      sym
      (t.so_far
      ∙ (ap (furthest next at (onward left low high)) (none_left s next l)
      ∙ furthest_end next at (onward left low high) (onward_nil left low high h)))

  module _ (h : 0 < left) (l : next < length s) where
    step : (b : Bool) → (leb low (get_or s next 0) && leb (get_or s next 0) high) ≡ b
        → longest utf8_octets s ≡ furthest (next + 1) at (λ u. b && onward (left - 1) 0x80 0xBF u) (drop (next + 1) s)
    step b e =
        t.so_far
        ∙ (ap (furthest next at (onward left low high)) (next_byte s next l)
        ∙ (furthest_more next at (onward left low high) (get_or s next 0) (drop (next + 1) s) (onward_nil left low high h)
        ∙ ap (λ (r : Rule). furthest (next + 1) at r (drop (next + 1) s))
        (fun_ext (λ u. onward_cons left low high (get_or s next 0) u h ∙ ap (λ (k : Bool). k && onward (left - 1) 0x80 0xBF u) e))))

    pub tails_below : get_or s next 0 < low → at ≡ longest utf8_octets s
    tails_below k =
        sym (step false (simp (lt-leb low (get_or s next 0) k)) ∙ furthest_none (next + 1) at _ (λ u. refl) (drop (next + 1) s))

    pub tails_above : high < get_or s next 0 → at ≡ longest utf8_octets s
    tails_above k =
        sym
        (step false (simp (lt-leb (get_or s next 0) high k, and-false))
        ∙ furthest_none (next + 1) at _ (λ u. refl) (drop (next + 1) s))

    pub tails_next : low ≤ get_or s next 0 → get_or s next 0 ≤ high → Tails s at 0x80 0xBF (left - 1) (next + 1)
    tails_next k m =
        record {
          begun = omega arith;
          within = omega arith;
          so_far = step true (simp (le-leb low (get_or s next 0) k, le-leb (get_or s next 0) high m));
        }

  pub tails_end : left ≤ 0 → Passed (longest utf8_octets) s next
  unfolding ◌then_many◌ nothing
  tails_end h =
      let z : left ≡ 0 = omega arith in
      record { within = t.within; so_far = rw z at t.so_far ∙ furthest_on next at utf8_octets (drop next s) refl }

-- the bytes below 128 that are passed, one or eight a turn, and what is passed of a part
pub ascii_passed : (s : List ℕ) (i : ℕ) → Passes s i → Passed (longest utf8_octets) s i
ascii_passed s i (h, e) = record { within = h; so_far = e }

module _ {s : List ℕ} {i : ℕ} (p : Passed (longest utf8_octets) s i) where
  pub ascii_next : i < length s → get_or s i 0 < 128 → Passed (longest utf8_octets) s (i + 1)
  ascii_next h k =
      let whole : Lead = record { more = 0; low = 0x80; high = 0xBF } in
      tails_end (tails_start p (Some whole) h (ascii_whole (get_or s i 0) k) whole refl) (omega arith)

  pub ascii_part : (r : ℕ) → Passes (rest i s) r → Passed (longest utf8_octets) s (i + r)
  ascii_part r q =
      let (h, e) = rw (rest_is i s) at q in
      passed_more p r (omega (arith, length-drop i s, p.within)) (rw (drop-drop r i s) at e)

-- `pass_ascii`: each byte before the first that is 128 or more
ascii_front : (s : List ℕ) (n : ℕ) → n ≤ length s → AllWithin (λ x. x < 128) s 0 n → Passed (longest utf8_octets) s n
ascii_front s zero h a = check_start s
ascii_front s (suc n) h a =
    let e : n + 1 ≡ suc n = omega arith in
    rw e at (ascii_next (ascii_front s n (omega arith) (λ k d l m. a k d l (omega arith))) (omega arith) (a n 0 (omega arith) (omega arith)))

front_passes : (s : List ℕ) (n : ℕ) → n ≤ length s → AllWithin (λ x. x < 128) s 0 n → Passes s n
front_passes s n h a = let p = ascii_front s n h a in (p.within, p.so_far)

module _ (s : List ℕ) (i : ℕ) (p : Passes s i) where
  ascii_on : (n : ℕ) → n ≤ length (rest i s) → AllWithin (λ x. x < 128) (rest i s) 0 n → Passes s (i + n)
  ascii_on n h a = let q = ascii_part (ascii_passed s i p) n (front_passes (rest i s) n h a) in (q.within, q.so_far)

  pub ascii_some : (n : ℕ) → IsFirstHigh (rest i s) (Some n) → Passes s (i + n)
  ascii_some n (h, a) = ascii_on n (omega arith) a

  pub ascii_all : IsFirstHigh (rest i s) None → Passes s (length s)
  ascii_all a =
      let l : length (rest i s) ≡ length s - i = rw (rest_is i s) (length-drop i s) in
      let e : i + length (rest i s) ≡ length s = omega (arith, p.0) in
      rw e at (ascii_on (length (rest i s)) (omega arith) (λ k d l h. a k d h))

-- `sequence_length`
pub begins_never : (s : List ℕ) (l : Option Lead) → 0 < length s → ((t : List ℕ) → utf8_char (get_or s 0 0 ∷ t) ≡ goes_on l t) → l ≡ None
    → (r : Option ℕ) → r ≡ None → BeginsWith s r
begins_never s l h e n r er = rw er (sym (check_never (check_start s) l h e n))

-- `pass_ascii_by_eights`
abbrev high : ℕ → Bool
high x = leb 127 x

pub ascii_eight : {s : List ℕ} {i : ℕ} → Passed (longest utf8_octets) s i → 8 ≤ length s - i → any_of high s i 7 ≡ false
    → Passed (longest utf8_octets) s (i + 8)
ascii_eight {s} p h e =
    passed_run high (λ k q l f. ascii_next q l (omega (arith, leb-false 127 (get_or s k 0) f))) p 7 (omega arith) e

module _ (s : List ℕ) (n : ℕ) (e : n ≡ longest utf8_octets s) where
  all_read : utf8_octets s ≡ eqb n (length s)
  unfolding ◌then_many◌ nothing
  all_read = rw e (longest_all utf8_octets refl s)

  pub check_well : n ≡ length s → (Ok tt) ≡ utf8_of s
  unfolding utf8_of
  check_well h = simp (all_read, eq-eqb n (length s) h)

  pub check_ill : (n ≡ length s → ⊥) → Err n ≡ utf8_of s
  unfolding utf8_of
  check_ill h = simp (all_read, ne_eqb n (length s) h) (ap Err e)

-- `check_utf8`: at a place where no sequence begins the longest well-formed front ends
pub check_stuck : {s : List ℕ} {at : ℕ} → Passed (longest utf8_octets) s at → at < length s → BeginsWith (rest at s) None → Err at ≡ utf8_of s
check_stuck {s} {at} p h b =
    let e : longest utf8_octets (drop at s) ≡ 0 = rw (rest_is at s) at b in
    check_ill s at (passed_all p e) (λ z. omega arith)

pub ruleset laws = (
  check_start,
  check_end,
  check_never,
  tails_start,
  tails_short,
  tails_below,
  tails_above,
  tails_next,
  tails_end,
  ascii_passed,
  ascii_next,
  ascii_part,
  ascii_eight,
  check_well,
  check_ill,
)
