-- One law for each way out of the crate's functions. Assumes nothing.
use Prim.Native.Nat.{ℕ, ◌+◌, ◌<◌, ◌≤◌}
use native.Mathlib.Omega.{arith}
use mathlib.Core.Path.{◌≡◌, refl, sym, ap, ◌∙◌}
use mathlib.Core.Bool.{Bool, true, false, ◌&&◌}
use mathlib.Core.List.{List, [], ◌∷◌, ◌++◌, map}
use mathlib.Core.Logic.{◌↔◌}
use lib.Dec.{leb, eqb}
use lib.ListN.{length, replicate, length-append}
use borrow.Author.Tests.{lt-ltb, le-ltb, leb-true, leb-false}
use Rattle.std.specs.Prelude.{Option, Some, None}
use Rattle.std.specs.Bool.{IsTrue}
use Rattle.std.specs.Char.{to_ascii_lowercase}
use Rattle.std.specs.Cmp.Lexicographic.{pointwise}
use Rattle.std.specs.Prelude.{nat_eq}
use denote.Enum.Bare.{sameb}
use Rattle.ipnumber.specs.contracts.Family.{the_type}
use Rattle.number.proofs.Laws.{inside, below, above}
use Rattle.text.specs.Word.{same}
use Rattle.text.proofs.Bools.{by_bool, clash, both_ways}
use Rattle.text.proofs.Cuts.{same_eq, same_refl}
use Rattle.ipaddr.specs.Number.{Address, four, six, ip_address_of}
use Rattle.ipnumber.specs.Told.{told, ip_number}
use Rattle.ipnumber.specs.declared.IpNumber.{IpNumber}
use Rattle.ipnumber.specs.declared.Family.TheVariants.{V4, V6}
use Rattle.hosts.specs.Server.{lower, folded, alike_by, one_server}
use Rattle.hosts.proofs.Owed.{servers_sorted}

-- `lower`
pub capital : (b : ℕ) → 65 ≤ b → b ≤ 90 → b + 32 ≡ lower b
unfolding lower
capital b h k = rw (inside 65 90 b h k) refl

pub below_capitals : (b : ℕ) → b < 65 → b ≡ lower b
unfolding lower
below_capitals b h = rw (below 65 90 b h) refl

pub behind_capitals : (b : ℕ) → 90 < b → b ≡ lower b
unfolding lower
behind_capitals b h = rw (above 65 90 b h) refl

pub ruleset letters = (capital, below_capitals, behind_capitals)

-- std's small letters are those of the definition
pub lower_is : (b : ℕ) → to_ascii_lowercase b ≡ lower b
unfolding lower
lower_is b =
    by_bool (leb 65 b)
    (λ e.
    let l = leb-true 65 b e in
    rw (e, le-ltb b 65 l)
    (by_bool (leb b 90)
    (λ f. let m = leb-true b 90 f in rw (f, lt-ltb b 91 (omega arith)))
    (λ f. let m = leb-false b 90 f in rw (f, le-ltb b 91 (omega arith)))))
    (λ e. let l = leb-false 65 b e in rw (e, lt-ltb b 65 (omega arith)))

-- `==` of two texts
pointwise_same : (s t : List ℕ) → pointwise nat_eq s t ≡ same s t
unfolding same
pointwise_same [] [] = refl
pointwise_same [] (y ∷ t) = refl
pointwise_same (x ∷ s) [] = refl
pointwise_same (x ∷ s) (y ∷ t) = ap (λ (b : Bool). eqb x y && b) (pointwise_same s t)

-- `one_server`
pub equal_hosts : (s t : List ℕ) (r : Bool) → r ≡ pointwise nat_eq s t → r ≡ true → true ≡ one_server s t
equal_hosts s t r e f = let g : s ≡ t = same_eq s t (sym (pointwise_same s t) ∙ sym e ∙ f) in sym (rw g (servers_sorted.to_self t))

-- names that are equal with small letters
small_letters : (s : List ℕ) → map to_ascii_lowercase s ≡ folded s
unfolding folded
small_letters [] = refl
small_letters (b ∷ s) = rw (lower_is b, small_letters s)

names_are : (s t : List ℕ) (r : Bool) → IsTrue r ↔ (map to_ascii_lowercase s ≡ map to_ascii_lowercase t) → r ≡ same (folded s) (folded t)
names_are s t true h = sym (rw (sym (small_letters s) ∙ h.0 refl ∙ small_letters t) (same_refl (folded t)))
names_are s t false h =
    by_bool (same (folded s) (folded t))
    (λ e. let f = h.1 (small_letters s ∙ same_eq (folded s) (folded t) e ∙ sym (small_letters t)) in clash (cc))
    (λ e. sym e)

-- a text without a number is no address
no_number : (m : Option Address) → None ≡ told m → m ≡ None
unfolding told
no_number None e = refl
no_number (Some (four os)) e = clash (cc)
no_number (Some (six gs)) e = clash (cc)

names_else : (m n : Option Address) (b : Bool) → n ≡ None → alike_by m n b ≡ b
names_else (Some a) n b e = rw e refl
names_else None n b e = refl

module _ (s t : List ℕ) (r : Bool) (er : IsTrue r ↔ (map to_ascii_lowercase s ≡ map to_ascii_lowercase t)) where
  pub first_no_address : (x : Option IpNumber) → x ≡ told (ip_address_of s) → x ≡ None → r ≡ one_server s t
  unfolding one_server
  first_no_address x ex e = let g = no_number (ip_address_of s) (sym e ∙ ex) in names_are s t r er ∙ rw g refl

  pub second_no_address : (y : Option IpNumber) → y ≡ told (ip_address_of t) → y ≡ None → r ≡ one_server s t
  unfolding one_server
  second_no_address y ey e =
      let g = no_number (ip_address_of t) (sym e ∙ ey) in
      names_are s t r er ∙ sym (names_else (ip_address_of s) (ip_address_of t) (same (folded s) (folded t)) g)

-- texts with one end are the same where what stands before it is
same_front : (s t u : List ℕ) → length s ≡ length t → same (s ++ u) (t ++ u) ≡ true → same s t ≡ true
unfolding same
same_front [] [] u h e = refl
same_front [] (y ∷ t) u h e = absurd (omega arith)
same_front (x ∷ s) [] u h e = absurd (omega arith)
same_front (x ∷ s) (y ∷ t) u h e =
    by_bool (eqb x y) (λ f. rw f (same_front s t u (omega arith) (simp f at e))) (λ f. clash (cc (simp f at e)))

same_before : (s t u : List ℕ) → same (s ++ u) (t ++ u) ≡ same s t
same_before s t u =
    both_ways (same (s ++ u) (t ++ u)) (same s t)
    (λ e. let k = ap length (same_eq (s ++ u) (t ++ u) e) in same_front s t u (omega (arith, k, length-append s u, length-append t u)) e)
    (λ e. rw (same_eq s t e) (same_refl (t ++ u)))

-- `==` of two numbers
abbrev pub equal_numbers : IpNumber → IpNumber → Bool
equal_numbers x y = sameb the_type x.family y.family && pointwise nat_eq x.words y.words

numbers_are : (m n : Option Address) (x y : IpNumber) (b : Bool) → Some x ≡ told m → Some y ≡ told n → equal_numbers x y ≡ alike_by m n b
unfolding told
numbers_are None n x y b e f = clash (cc)
numbers_are (Some a) None x y b e f = clash (cc)
numbers_are (Some (four os)) (Some (four ps)) x y b e f =
    let g : x ≡ ip_number V4 (os ++ replicate 4 0) = cc in
    let h : y ≡ ip_number V4 (ps ++ replicate 4 0) = cc in
    rw (g, h) (pointwise_same (os ++ replicate 4 0) (ps ++ replicate 4 0) ∙ same_before os ps (replicate 4 0))
numbers_are (Some (four os)) (Some (six gs)) x y b e f =
    let g : x ≡ ip_number V4 (os ++ replicate 4 0) = cc in
    let h : y ≡ ip_number V6 gs = cc in
    rw (g, h) refl
numbers_are (Some (six gs)) (Some (four os)) x y b e f =
    let g : x ≡ ip_number V6 gs = cc in
    let h : y ≡ ip_number V4 (os ++ replicate 4 0) = cc in
    rw (g, h) refl
numbers_are (Some (six gs)) (Some (six hs)) x y b e f =
    let g : x ≡ ip_number V6 gs = cc in
    let h : y ≡ ip_number V6 hs = cc in
    rw (g, h) (pointwise_same gs hs)

pub both_addresses : (s t : List ℕ) (x y : Option IpNumber) → x ≡ told (ip_address_of s) → y ≡ told (ip_address_of t)
    → (a b : IpNumber) → x ≡ Some a → y ≡ Some b → (r : Bool) → r ≡ equal_numbers a b → r ≡ one_server s t
unfolding one_server
both_addresses s t x y ex ey a b ea eb r e =
    e ∙ numbers_are (ip_address_of s) (ip_address_of t) a b (same (folded s) (folded t)) (sym ea ∙ ex) (sym eb ∙ ey)

pub ruleset laws = (equal_hosts, first_no_address, second_no_address, both_addresses)
