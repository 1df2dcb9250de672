-- What callers need of an IP address: its bytes, its length and its number of colons. Each is had from the grammar, rule by rule. Assumes nothing.
use Prim.Native.Nat.{ℕ, ◌+◌, ◌≤◌, ◌<◌}
use mathlib.Core.Path.{◌≡◌, refl, sym, ap}
use mathlib.Core.Bool.{Bool, true, false, ◌&&◌, ◌||◌}
use mathlib.Core.List.{List, [], ◌∷◌}
use native.Mathlib.Omega.{arith}
use lib.Dec.{leb}
use lib.ListN.{length, get_or}
use borrow.Author.Tests.{leb-true, le-leb}
use Rattle.text.proofs.Bools.{by_bool, clash, both, and_left, and_right, or_elim, neither}
use Rattle.number.specs.Hex.{between}
use Rattle.abnf.specs.Rule.{nothing, range, letter, ◌or◌, ◌then◌, maybe, times, upto}
use Rattle.abnf.proofs.Free.{Lacks, All, lacks_all, free_laws}
use Rattle.abnf.proofs.Sizes.{Sizes, scale, count_of, sizes_range, sizes_byte, sizes_then, sizes_or, sizes_maybe, sizes_times, sizes_upto}
use Rattle.ipaddr.specs.Address.{digit, hexdig, dec_octet, ipv4address, h16, h16colon, double_colon, ls32, ipv6address, ip_address}

-- a digit, a letter of base 16, a dot or a colon
unfoldable pub address_byte : ℕ → Bool
address_byte b = between 48 57 b || (between 65 70 b || (between 97 102 b || (between 46 46 b || between 58 58 b)))

-- a byte outside of all these
module _ (c : ℕ) (d : between 48 57 c ≡ false) (u : between 65 70 c ≡ false) (l : between 97 102 c ≡ false)
    (p : between 46 46 c ≡ false) (q : between 58 58 c ≡ false) where
  digits : (a z : ℕ) → (leb 48 a && leb z 57) ≡ true → between a z c ≡ false
  digits a z h =
      by_bool (between a z c)
      (λ e. clash (cc (
        d,
        both
            (le-leb 48 c (omega (arith, leb-true a c (and_left (leb a c) (leb c z) e), leb-true 48 a (and_left (leb 48 a) (leb z 57) h))))
            (le-leb c 57 (omega (arith, leb-true c z (and_right (leb a c) (leb c z) e), leb-true z 57 (and_right (leb 48 a) (leb z 57) h)))),
      )))
      (λ e. e)

  lacks_ipv4 : Lacks c ipv4address
  unfolding ipv4address dec_octet
  lacks_ipv4 = search (free_laws, digits) depth 30

  lacks_h16 : Lacks c h16
  unfolding h16 hexdig
  lacks_h16 = search free_laws depth 30

  lacks_address : Lacks c ip_address
  unfolding ip_address ipv6address h16colon double_colon ls32
  lacks_address = search (free_laws, lacks_ipv4, lacks_h16) depth 30

-- no other byte is in an address
pub address_lacks : (c : ℕ) → address_byte c ≡ false → Lacks c ip_address
unfolding address_byte
address_lacks c h =
    let a = neither (between 48 57 c) _ h in
    let b = neither (between 65 70 c) _ a.1 in
    let e = neither (between 97 102 c) _ b.1 in
    let f = neither (between 46 46 c) _ e.1 in
    lacks_address c a.0 b.0 e.0 f.0 f.1

pub address_bytes : (s : List ℕ) → ip_address s ≡ true → All address_byte s
address_bytes = lacks_all address_byte ip_address (λ c h. (address_lacks c h).free)

-- the bytes, in the form that arithmetic can use: no slash, no bracket
pub record Plain (b : ℕ) : Type 0 where
  pub low : 46 ≤ b
  pub high : b ≤ 102
  pub slash : b ≡ 47 → ⊥
  pub open_bracket : b ≡ 91 → ⊥
  pub close_bracket : b ≡ 93 → ⊥

pub address_plain : (b : ℕ) → address_byte b ≡ true → Plain b
unfolding address_byte
address_plain b h =
    or_elim (between 48 57 b) _ (plain 48 57 (omega arith) (omega arith))
    (or_elim (between 65 70 b) _ (plain 65 70 (omega arith) (omega arith))
    (or_elim (between 97 102 b) _ (plain 97 102 (omega arith) (omega arith))
    (or_elim (between 46 46 b) _ (plain 46 46 (omega arith) (omega arith)) (plain 58 58 (omega arith) (omega arith))))) h
  where
    other : (c : ℕ) → address_byte c ≡ false → b ≡ c → ⊥
    other c f e = clash (cc (f, h, ap address_byte e))

    plain : (a z : ℕ) → 46 ≤ a → z ≤ 102 → between a z b ≡ true → Plain b
    plain a z k l e =
        record {
          low = omega (arith, leb-true a b (and_left (leb a b) (leb b z) e));
          high = omega (arith, leb-true b z (and_right (leb a b) (leb b z) e));
          slash = other 47 refl;
          open_bracket = other 91 refl;
          close_bracket = other 93 refl;
        }

-- how many colons, and how many bytes
sizes_digit : Sizes 58 0 0 1 digit
sizes_digit = sizes_range 48 57 refl

sizes_octet : Sizes 58 0 0 3 dec_octet
unfolding dec_octet
sizes_octet =
    sizes_or sizes_digit
    (sizes_or (sizes_then (sizes_range 49 57 refl) sizes_digit)
    (sizes_or (sizes_then (sizes_range 49 49 refl) (sizes_times 2 sizes_digit))
    (sizes_or (sizes_then (sizes_range 50 50 refl) (sizes_then (sizes_range 48 52 refl) sizes_digit))
    (sizes_then (sizes_range 50 50 refl) (sizes_then (sizes_range 53 53 refl) (sizes_range 48 53 refl))))))

sizes_ipv4 : Sizes 58 0 0 15 ipv4address
unfolding ipv4address
sizes_ipv4 = sizes_then sizes_octet (sizes_then dot (sizes_then sizes_octet (sizes_then dot (sizes_then sizes_octet (sizes_then dot sizes_octet)))))
  where
    dot : Sizes 58 0 0 1 (letter ".")
    dot = sizes_range 46 46 refl

sizes_hexdig : Sizes 58 0 0 1 hexdig
unfolding hexdig
sizes_hexdig = sizes_or sizes_digit (sizes_or (sizes_range 65 70 refl) (sizes_range 97 102 refl))

sizes_h16 : Sizes 58 0 0 4 h16
unfolding h16
sizes_h16 = sizes_then sizes_hexdig (sizes_upto 3 sizes_hexdig)

sizes_h16colon : Sizes 58 1 1 5 h16colon
unfolding h16colon
sizes_h16colon = sizes_then sizes_h16 sizes_byte

sizes_double_colon : Sizes 58 2 2 2 double_colon
unfolding double_colon
sizes_double_colon = sizes_then sizes_byte sizes_byte

sizes_ls32 : Sizes 58 0 1 15 ls32
unfolding ls32
sizes_ls32 = sizes_or (sizes_then sizes_h16 (sizes_then sizes_byte sizes_h16)) sizes_ipv4

sizes_left : (k : ℕ) → Sizes 58 0 (scale k 1 + 0) (scale k 5 + 4) (maybe (upto k h16colon then h16))
sizes_left k = sizes_maybe (sizes_then (sizes_upto k sizes_h16colon) sizes_h16)

sizes_ipv6 : Sizes 58 2 8 45 ipv6address
unfolding ipv6address
sizes_ipv6 =
    sizes_or (sizes_then (sizes_times 6 sizes_h16colon) sizes_ls32)
    (sizes_or (sizes_then sizes_double_colon (sizes_then (sizes_times 5 sizes_h16colon) sizes_ls32))
    (sizes_or (sizes_then (sizes_maybe sizes_h16) (sizes_then sizes_double_colon (sizes_then (sizes_times 4 sizes_h16colon) sizes_ls32)))
    (sizes_or (sizes_then (sizes_left 1) (sizes_then sizes_double_colon (sizes_then (sizes_times 3 sizes_h16colon) sizes_ls32)))
    (sizes_or (sizes_then (sizes_left 2) (sizes_then sizes_double_colon (sizes_then (sizes_times 2 sizes_h16colon) sizes_ls32)))
    (sizes_or (sizes_then (sizes_left 3) (sizes_then sizes_double_colon (sizes_then sizes_h16colon sizes_ls32)))
    (sizes_or (sizes_then (sizes_left 4) (sizes_then sizes_double_colon sizes_ls32))
    (sizes_or (sizes_then (sizes_left 5) (sizes_then sizes_double_colon sizes_h16))
    (sizes_then (sizes_left 6) sizes_double_colon))))))))

sizes_address : Sizes 58 0 8 45 ip_address
unfolding ip_address
sizes_address = sizes_or sizes_ipv4 sizes_ipv6

pub address_short : (s : List ℕ) → ip_address s ≡ true → length s ≤ 45
address_short s h = (sizes_address s h).short

-- one colon alone is in no address
pub one_colon : (s : List ℕ) → count_of 58 s ≡ 1 → ip_address s ≡ false
unfolding ip_address ◌or◌
one_colon s h =
    by_bool (ip_address s)
    (or_elim (ipv4address s) (ipv6address s) (λ e. absurd (omega (arith, (sizes_ipv4 s e).most)))
    (λ e. absurd (omega (arith, (sizes_ipv6 s e).least))))
    (λ e. e)

no_address : ip_address [] ≡ false
unfolding ip_address ipv4address ipv6address dec_octet ls32 h16 h16colon hexdig double_colon nothing range ◌or◌ ◌then◌ times upto
no_address = refl

pub address_some : (s : List ℕ) → ip_address s ≡ true → 0 < length s
address_some [] h = clash (cc (h, no_address))
address_some (b ∷ s) h = omega arith

-- `is_ip_address`: what no address begins with
pub empty_none : (s : List ℕ) → length s ≡ 0 → false ≡ ip_address s
empty_none [] h = sym no_address
empty_none (b ∷ s) h = absurd (omega arith)

first_plain : (s : List ℕ) → (length s ≡ 0 → ⊥) → ip_address s ≡ true → Plain (get_or s 0 0)
first_plain [] h e = absurd (h refl)
first_plain (b ∷ s) h e = head (address_bytes (b ∷ s) e)
  where
    head : All address_byte (b ∷ s) → Plain b
    head (All.more k r) = address_plain b k

module _ (s : List ℕ) (h : length s ≡ 0 → ⊥) where
  pub first_high : 102 < get_or s 0 0 → false ≡ ip_address s
  first_high k = sym (by_bool (ip_address s) (λ e. absurd (omega (arith, (first_plain s h e).high))) (λ e. e))

  pub first_bracket : get_or s 0 0 ≡ 91 → false ≡ ip_address s
  first_bracket k = sym (by_bool (ip_address s) (λ e. absurd ((first_plain s h e).open_bracket k)) (λ e. e))

pub ruleset first_laws = (empty_none, first_high, first_bracket)
