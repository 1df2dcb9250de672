-- Whether a text is an IP address does not depend on the case of its letters. Assumes nothing.
use Prim.Native.Nat.{ℕ, zero, suc, ◌+◌, ◌≤◌, ◌<◌}
use mathlib.Core.Path.{◌≡◌, refl, sym, ◌∙◌}
use mathlib.Core.Bool.{Bool, true, false, ◌||◌, and-false, or-false}
use mathlib.Core.List.{List, [], ◌∷◌, map}
use native.Mathlib.Omega.{arith}
use lib.Dec.{leb}
use borrow.Author.Tests.{le-leb, lt-leb, leb-true}
use Rattle.text.proofs.Bools.{by_bool, both_ways, and_left, and_right}
use Rattle.number.specs.Hex.{between}
use Rattle.abnf.specs.Rule.{Rule, nothing, range, ◌or◌, ◌then◌, times, upto}
use Rattle.ipaddr.specs.Address.{hexdig, dec_octet, ipv4address, h16, h16colon, double_colon, ls32, ipv6address, ip_address}
use Rattle.hosts.specs.Server.{lower, folded}

-- p takes a text exactly where it takes it with small letters
pub record Caseless (p : Rule) : Type 0 where
  pub of : (s : List ℕ) → p s ≡ p (folded s)

-- the same of two rules, of which one is to take the text with small letters: what a rule becomes behind a byte is another behind its small letter
through_then : (p p' q q' : Rule) → ((s : List ℕ) → p s ≡ p' (folded s)) → ((s : List ℕ) → q s ≡ q' (folded s))
    → (s : List ℕ) → (p then q) s ≡ (p' then q') (folded s)
unfolding ◌then◌ folded
through_then p p' q q' h g [] = rw (h [], g [])
through_then p p' q q' h g (x ∷ s) =
    rw (h [], g (x ∷ s), through_then (λ t. p (x ∷ t)) (λ t. p' (lower x ∷ t)) q q' (λ t. h (x ∷ t)) g s)

pub caseless_then : (p q : Rule) → Caseless p → Caseless q → Caseless (p then q)
caseless_then p q h g = record { of = through_then p p q q h.of g.of }

pub caseless_or : (p q : Rule) → Caseless p → Caseless q → Caseless (p or q)
unfolding ◌or◌
caseless_or p q h g = record { of = λ s. rw (h.of s, g.of s) }

pub caseless_nothing : Caseless nothing
caseless_nothing = record { of = go }
  where
    go : (s : List ℕ) → nothing s ≡ nothing (folded s)
    go [] = unfold folded in refl
    go (x ∷ s) = unfold folded nothing in refl

pub caseless_times : (n : ℕ) (p : Rule) → Caseless p → Caseless (times n p)
unfolding times
caseless_times zero p h = caseless_nothing
caseless_times (suc n) p h = caseless_then p (times n p) h (caseless_times n p h)

pub caseless_upto : (n : ℕ) (p : Rule) → Caseless p → Caseless (upto n p)
unfolding upto
caseless_upto zero p h = caseless_nothing
caseless_upto (suc n) p h = caseless_or nothing (p then upto n p) caseless_nothing (caseless_then p (upto n p) h (caseless_upto n p h))

-- a rule of one byte
one_byte : (p : ℕ → Bool) (r : Rule) → r [] ≡ false → ((x : ℕ) → r (x ∷ []) ≡ p x) → ((x y : ℕ) (s : List ℕ) → r (x ∷ y ∷ s) ≡ false)
    → ((x : ℕ) → p x ≡ p (lower x)) → Caseless r
one_byte p r e f g h = record { of = go }
  where
    go : (s : List ℕ) → r s ≡ r (folded s)
    go [] = unfold folded in refl
    go (x ∷ []) = unfold folded in f x ∙ h x ∙ sym (f (lower x))
    go (x ∷ y ∷ s) = unfold folded in g x y s ∙ sym (g (lower x) (lower y) (map lower s))

capital : (x : ℕ) → between 65 90 x ≡ true → (65 ≤ x) × (x ≤ 90)
capital x e = (leb-true 65 x (and_left (leb 65 x) (leb x 90) e), leb-true x 90 (and_right (leb 65 x) (leb x 90) e))

pub lower_capital : (x : ℕ) → between 65 90 x ≡ true → lower x ≡ x + 32
unfolding lower
lower_capital x e = simp e

pub lower_other : (x : ℕ) → between 65 90 x ≡ false → lower x ≡ x
unfolding lower
lower_other x e = simp e

-- no range below the letters tells their cases apart
range_low : (a b : ℕ) → b < 65 → (x : ℕ) → between a b x ≡ between a b (lower x)
range_low a b h x =
    by_bool (between 65 90 x)
    (λ e.
    let c = capital x e in
    let u : leb x b ≡ false = lt-leb x b (omega (arith, c.0)) in
    let v : leb (x + 32) b ≡ false = lt-leb (x + 32) b (omega (arith, c.0)) in
    rw (lower_capital x e, u, v) (and-false (leb a x) ∙ sym (and-false (leb a (x + 32)))))
    (λ e. rw (lower_other x e))

pub caseless_range : (a b : ℕ) → leb b 64 ≡ true → Caseless (range a b)
unfolding range
caseless_range a b h = one_byte (between a b) (range a b) refl (λ x. refl) (λ x y s. refl) (range_low a b (omega (arith, leb-true b 64 h)))

abbrev is_hex : ℕ → Bool
is_hex x = between 48 57 x || (between 65 70 x || between 97 102 x)

-- of a capital
hex_capital_lem : (x : ℕ) → 65 ≤ x → x ≤ 90 → is_hex x ≡ is_hex (x + 32)
hex_capital_lem x h k =
    let a : leb x 57 ≡ false = lt-leb x 57 (omega arith) in
    let b : leb 97 x ≡ false = lt-leb 97 x (omega arith) in
    let d : leb (x + 32) 57 ≡ false = lt-leb (x + 32) 57 (omega arith) in
    let f : leb (x + 32) 70 ≡ false = lt-leb (x + 32) 70 (omega arith) in
    let g : leb 65 x ≡ true = le-leb 65 x h in
    let i : leb 97 (x + 32) ≡ true = le-leb 97 (x + 32) (omega arith) in
    let j : leb x 70 ≡ leb (x + 32) 102 =
    both_ways (leb x 70) (leb (x + 32) 102)
    (λ t. le-leb (x + 32) 102 (omega (arith, leb-true x 70 t)))
    (λ t. le-leb x 70 (omega (arith, leb-true (x + 32) 102 t))) in
    rw (a, b, d, f, g, i, j, and-false (leb 48 x), and-false (leb 48 (x + 32)), and-false (leb 65 (x + 32)), or-false (leb (x + 32) 102))

hex_low : (x : ℕ) → is_hex x ≡ is_hex (lower x)
hex_low x =
    by_bool (between 65 90 x)
    (λ e. let c = capital x e in rw (lower_capital x e) (hex_capital_lem x c.0 c.1))
    (λ e. rw (lower_other x e))

pub caseless_hexdig : Caseless hexdig
unfolding hexdig ◌or◌ range
caseless_hexdig = one_byte is_hex hexdig refl (λ x. refl) (λ x y s. refl) hex_low

pub ruleset caseless_laws = (caseless_then, caseless_or, caseless_nothing, caseless_times, caseless_upto, caseless_range, caseless_hexdig)

caseless_octet : Caseless dec_octet
unfolding dec_octet
caseless_octet = search caseless_laws depth 20

caseless_four : Caseless ipv4address
unfolding ipv4address
caseless_four = search (caseless_laws, caseless_octet) depth 20

caseless_group : Caseless h16
unfolding h16
caseless_group = search caseless_laws depth 20

caseless_six : Caseless ipv6address
unfolding ipv6address ls32 h16colon double_colon
caseless_six = search (caseless_laws, caseless_four, caseless_group) depth 40

pub caseless_address : Caseless ip_address
unfolding ip_address
caseless_address = caseless_or ipv4address ipv6address caseless_four caseless_six
