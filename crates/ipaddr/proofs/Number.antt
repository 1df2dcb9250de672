-- The number of a text: there exactly where the text is an address, and of its size. Assumes nothing.
use Rattle.std.specs.Prelude.{Some, None}
use Prim.Native.Nat.{ℕ, zero, suc, ◌+◌, ◌*◌, ◌-◌, ◌≤◌, ◌<◌}
use mathlib.Core.Path.{◌≡◌, refl, sym, ap, ◌∙◌}
use mathlib.Core.Bool.{Bool, true, false, cond, ◌&&◌, ◌||◌, or-false}
use mathlib.Core.List.{List, [], ◌∷◌, ◌++◌}
use mathlib.Core.Logic.{◌↔◌}
use native.Mathlib.Omega.{arith}
use lib.Dec.{eqb, leb, ltb}
use lib.ListN.{length, take, drop, get_or, replicate, length-append}
use borrow.Author.Tests.{leb-true, ltb-true, ltb-false, eqb-true}
use Rattle.text.specs.Find.{before, before_pair}
use Rattle.text.proofs.Bools.{by_bool, clash, and_left, and_right, or_elim}
use Rattle.number.specs.Hex.{between, hex_digit}
use Rattle.number.proofs.Laws.{hex_decimal}
use Rattle.abnf.specs.Rule.{nothing, ◌or◌}
use Rattle.abnf.proofs.Rules.{byte_is}
use Rattle.abnf.proofs.Places.{free_at}
use Rattle.ipaddr.specs.Address.{dec_octet, h16, ip_address, ipv4address, ipv6address}
use Rattle.ipaddr.specs.Number.{Address, four, six, octets_from, octets_of, paired, groups_from, side_groups, filled, groups_of, ip_address_of}
use Rattle.ipaddr.specs.Sized.{NoneIsNoAddress, Sized, AddressSized}
use Rattle.ipaddr.specs.Private.Groups.{groups}
use Rattle.ipaddr.specs.Private.Value.{valued, groups_in}
use Rattle.ipaddr.proofs.Four.{dec_0, dec_1, dec_2, dec_3, dec_4, octets, octets_at, four_octets, octet_lacks, four_lacks}
use Rattle.ipaddr.proofs.Groups.{all_hex, group_is, no_group, one_of, begun, begun_colon, begun_last, groups_nil}
use Rattle.ipaddr.proofs.Six.{any, any_none, form, at_most, six_forms, no_eight}

pub none_is_no_address : NoneIsNoAddress
unfolding ip_address_of ip_address ◌or◌
none_is_no_address s = go _ _ (ipv4address s) (ipv6address s)
  where
    go : (x y : Address) (a b : Bool) → cond a (Some x) (cond b (Some y) None) ≡ None ↔ a || b ≡ false
    go x y true b = (λ e. clash (cc), λ e. clash (cc))
    go x y false true = (λ e. clash (cc), λ e. clash (cc))
    go x y false false = (λ e. refl, λ e. refl)

-- the numbers of a text that is cut at its first separator: that of the part before it, and those of the rest
pub octets_cut : (v : ℕ) (s : List ℕ) → before 46 s < length s
    → octets_from v s ≡ valued 10 v (take (before 46 s) s) ∷ octets_from 0 (drop (suc (before 46 s)) s)
unfolding octets_from valued before
octets_cut v [] h = absurd (omega arith)
octets_cut v (x ∷ s) h =
    by_bool (eqb x 46) (λ e. simp e) (λ e. simp e (octets_cut (v * 10 + hex_digit x) s (omega (arith, simp e at h))))

octets_last : (v : ℕ) (s : List ℕ) → length s ≤ before 46 s → octets_from v s ≡ valued 10 v s ∷ []
unfolding octets_from valued before
octets_last v [] h = refl
octets_last v (x ∷ s) h =
    by_bool (eqb x 46) (λ e. absurd (omega (arith, simp e at h)))
    (λ e. simp e (octets_last (v * 10 + hex_digit x) s (omega (arith, simp e at h))))

groups_cut : (v : ℕ) (s : List ℕ) → before 58 s < length s
    → groups_from v s ≡ valued 16 v (take (before 58 s) s) ∷ groups_in (drop (suc (before 58 s)) s)
unfolding groups_from groups_in valued before
groups_cut v [] h = absurd (omega arith)
groups_cut v (x ∷ s) h =
    by_bool (eqb x 58) (λ e. simp e) (λ e. simp e (groups_cut (v * 16 + hex_digit x) s (omega (arith, simp e at h))))

groups_last : (v : ℕ) (s : List ℕ) → length s ≤ before 58 s → groups_from v s ≡ valued 16 v s ∷ []
unfolding groups_from valued before
groups_last v [] h = refl
groups_last v (x ∷ s) h =
    by_bool (eqb x 58) (λ e. absurd (omega (arith, simp e at h)))
    (λ e. simp e (groups_last (v * 16 + hex_digit x) s (omega (arith, simp e at h))))

module _ (s : List ℕ) where
  in_plain : ipv4address s ≡ false → groups_in s ≡ groups_from 0 s
  unfolding groups_in
  in_plain e = rw e

  pub in_cut : before 58 s < length s → groups_in s ≡ valued 16 0 (take (before 58 s) s) ∷ groups_in (drop (suc (before 58 s)) s)
  in_cut h = in_plain (free_at 58 ipv4address four_lacks.free s h) ∙ groups_cut 0 s h

  pub in_group : length s ≤ before 58 s → h16 s ≡ true → groups_in s ≡ valued 16 0 s ∷ []
  in_group h e = in_plain (one_of s e) ∙ groups_last 0 s h

  pub in_four : ipv4address s ≡ true → groups_in s ≡ paired (octets_of s)
  unfolding groups_in
  in_four e = rw e

pub side_in : (s : List ℕ) → (length s ≡ 0 → ⊥) → side_groups s ≡ groups_in s
unfolding side_groups groups_in
side_in [] h = absurd (h refl)
side_in (x ∷ s) h = refl

-- the value of one octet
record Decimal (a z x : ℕ) : Type 0 where
  low : a ≤ x
  high : x ≤ z
  value : hex_digit x ≡ x - 48

decimal : (a z x : ℕ) → between a z x ≡ true → 48 ≤ a → z ≤ 57 → Decimal a z x
decimal a z x e h k =
    let l = leb-true a x (and_left (leb a x) (leb x z) e) in
    let m = leb-true x z (and_right (leb a x) (leb x z) e) in
    record { low = l; high = m; value = sym (hex_decimal x (omega arith) (omega arith)) }

-- the first digit is f, the second from a to m, the third up to n
large_below : (f a m n x y z : ℕ) → 48 ≤ f → f ≤ 50 → 48 ≤ a → m ≤ 57 → n ≤ 57 → f * 100 + m * 10 + n < 5584
    → (eqb x f && (between a m y && between 48 n z)) ≡ true → valued 10 0 (x ∷ y ∷ z ∷ []) < 256
unfolding valued
large_below f a m n x y z h i j k l most e =
    let b = and_right (eqb x f) (between a m y && between 48 n z) e in
    let first = eqb-true x f (and_left (eqb x f) (between a m y && between 48 n z) e) in
    let value = hex_decimal x (omega arith) (omega arith) in
    let second = decimal a m y (and_left (between a m y) (between 48 n z) b) j k in
    let third = decimal 48 n z (and_right (between a m y) (between 48 n z) b) (omega arith) l in
    omega arith

pub octet_small : (s : List ℕ) → dec_octet s ≡ true → valued 10 0 s < 256
unfolding valued
octet_small [] h = clash (cc (h, dec_0))
octet_small (x ∷ []) h = let d = decimal 48 57 x (sym (dec_1 x) ∙ h) (omega arith) (omega arith) in omega arith
octet_small (x ∷ y ∷ []) h =
    let k = sym (dec_2 x y) ∙ h in
    let d = decimal 49 57 x (and_left (between 49 57 x) (between 48 57 y) k) (omega arith) (omega arith) in
    let e = decimal 48 57 y (and_right (between 49 57 x) (between 48 57 y) k) (omega arith) (omega arith) in
    omega arith
octet_small (x ∷ y ∷ z ∷ []) h =
    or_elim _ _ (large_below 49 48 57 57 x y z (omega arith) (omega arith) (omega arith) (omega arith) (omega arith) (omega arith))
    (or_elim _ _ (large_below 50 48 52 57 x y z (omega arith) (omega arith) (omega arith) (omega arith) (omega arith) (omega arith))
    (λ e. large_below 50 53 53 53 x y z (omega arith) (omega arith) (omega arith) (omega arith) (omega arith) (omega arith) (rw byte_is e)))
    (sym (dec_3 x y z) ∙ h)
octet_small (x ∷ y ∷ z ∷ w ∷ s) h = clash (cc (h, dec_4 x y z w s))

-- the value of one group: at most n digits on, the value is below this
room : ℕ → ℕ → ℕ
room zero v = suc v
room (suc n) v = room n (v * 16 + 15)

room_over : (n v : ℕ) → v < room n v
unfolding room
room_over zero v = omega arith
room_over (suc n) v = omega (arith, room_over n (v * 16 + 15))

hex_room : (n v w : ℕ) (s : List ℕ) → length s ≤ n → all_hex s ≡ true → v ≤ w → valued 16 v s < room n w
unfolding valued all_hex room
hex_room n v w [] h e k = omega (arith, room_over n w)
hex_room zero v w (x ∷ s) h e k = absurd (omega arith)
hex_room (suc n) v w (x ∷ s) h e k =
    hex_room n (v * 16 + hex_digit x) (w * 16 + 15) s (omega arith) (and_right (ltb (hex_digit x) 16) (all_hex s) e)
    (omega (arith, ltb-true (hex_digit x) 16 (and_left (ltb (hex_digit x) 16) (all_hex s) e)))

pub group_small : (s : List ℕ) → h16 s ≡ true → valued 16 0 s < 65536
unfolding room
group_small [] h = clash (cc (h, no_group))
group_small (x ∷ s) h =
    let e = sym (group_is (x ∷ s) (λ k. omega arith)) ∙ h in
    hex_room 4 0 0 (x ∷ s) (leb-true (length (x ∷ s)) 4 (and_left (leb (length (x ∷ s)) 4) (all_hex (x ∷ s)) e))
    (and_right (leb (length (x ∷ s)) 4) (all_hex (x ∷ s)) e) (omega arith)

-- the sizes of lists of numbers
sized_none : (limit : ℕ) → 0 < limit → Sized 0 limit []
sized_none limit h = record { count = refl; small = λ i. h }

sized_cons : {n limit x : ℕ} {ws : List ℕ} → x < limit → Sized n limit ws → Sized (suc n) limit (x ∷ ws)
sized_cons {n} {limit} {x} {ws} h r = record { count = ap suc r.count; small = go }
  where
    go : (i : ℕ) → get_or (x ∷ ws) i 0 < limit
    go zero = h
    go (suc i) = r.small i

sized_one : {limit x : ℕ} → x < limit → Sized 1 limit (x ∷ [])
sized_one {limit} h = sized_cons h (sized_none limit (omega arith))

sized_append : (a b limit : ℕ) (l r : List ℕ) → Sized a limit l → Sized b limit r → Sized (a + b) limit (l ++ r)
sized_append a b limit l r h k = record { count = omega (arith, length-append l r, h.count, k.count); small = go l h.small }
  where
    go : (l : List ℕ) → ((i : ℕ) → get_or l i 0 < limit) → (i : ℕ) → get_or (l ++ r) i 0 < limit
    go [] f i = k.small i
    go (x ∷ l) f zero = f 0
    go (x ∷ l) f (suc i) = go l (λ j. f (suc j)) i

sized_zeros : (n limit : ℕ) → 0 < limit → Sized n limit (replicate n 0)
sized_zeros zero limit h = sized_none limit h
sized_zeros (suc n) limit h = sized_cons h (sized_zeros n limit h)

-- the octets of an IPv4address
pub octet_alone : (s : List ℕ) → dec_octet s ≡ true → octets_from 0 s ≡ valued 10 0 s ∷ []
octet_alone s h =
    by_bool (ltb (before 46 s) (length s))
    (λ e. clash (cc (h, free_at 46 dec_octet octet_lacks.free s (ltb-true (before 46 s) (length s) e))))
    (λ e. octets_last 0 s (ltb-false (before 46 s) (length s) e))

octets_sized : (m : ℕ) (s : List ℕ) → octets m s ≡ true → Sized (suc m) 256 (octets_from 0 s)
unfolding octets
octets_sized zero s h = rw (octet_alone s h) (sized_one (octet_small s h))
octets_sized (suc m) s h =
    let e = sym (octets_at m s) ∙ h in
    let cut = ltb-true (before 46 s) (length s) (and_left _ (dec_octet (take (before 46 s) s) && octets m (drop (suc (before 46 s)) s)) e) in
    let k = and_right (ltb (before 46 s) (length s)) (dec_octet (take (before 46 s) s) && octets m (drop (suc (before 46 s)) s)) e in
    rw (octets_cut 0 s cut)
    (sized_cons (octet_small (take (before 46 s) s) (and_left _ (octets m (drop (suc (before 46 s)) s)) k))
    (octets_sized m (drop (suc (before 46 s)) s) (and_right (dec_octet (take (before 46 s) s)) _ k)))

pub four_sized : (s : List ℕ) → ipv4address s ≡ true → Sized 4 256 (octets_of s)
unfolding octets_of
four_sized s h = octets_sized 3 s (four_octets s ∙ h)

pub pairs_sized : (os : List ℕ) → Sized 4 256 os → Sized 2 65536 (paired os)
unfolding paired
pairs_sized [] h = absurd (omega (arith, h.count))
pairs_sized (a ∷ []) h = absurd (omega (arith, h.count))
pairs_sized (a ∷ b ∷ []) h = absurd (omega (arith, h.count))
pairs_sized (a ∷ b ∷ c ∷ []) h = absurd (omega (arith, h.count))
pairs_sized (a ∷ b ∷ c ∷ d ∷ []) h = sized_cons (omega (arith, h.small 0, h.small 1)) (sized_one (omega (arith, h.small 2, h.small 3)))
pairs_sized (a ∷ b ∷ c ∷ d ∷ e ∷ os) h = absurd (omega (arith, h.count))

-- the groups on one side
begun_sized : (mixed : Bool) (n : ℕ) (s : List ℕ) → begun mixed n s ≡ true → Sized n 65536 (groups_in s)
begun_sized mixed zero s h = unfold begun in clash (cc)
begun_sized mixed (suc n) s h =
    by_bool (ltb (before 58 s) (length s))
    (λ e. cut (ltb-true (before 58 s) (length s) e) (begun_sized mixed n (drop (suc (before 58 s)) s)))
    (λ e. last (ltb-false (before 58 s) (length s) e))
  where
    cut : before 58 s < length s → (begun mixed n (drop (suc (before 58 s)) s) ≡ true → Sized n 65536 (groups_in (drop (suc (before 58 s)) s)))
        → Sized (suc n) 65536 (groups_in s)
    cut l f =
        let d : suc n - 1 ≡ n = omega arith in
        let e : (h16 (take (before 58 s) s) && begun mixed n (drop (suc (before 58 s)) s)) ≡ true
        = rw d at (sym (begun_colon mixed s l (suc n)) ∙ h) in
        rw (in_cut s l)
        (sized_cons (group_small (take (before 58 s) s) (and_left _ (begun mixed n (drop (suc (before 58 s)) s)) e))
        (f (and_right (h16 (take (before 58 s) s)) _ e)))

    last : length s ≤ before 58 s → Sized (suc n) 65536 (groups_in s)
    last l =
        or_elim (eqb (suc n) 1 && h16 s) (eqb (suc n) 2 && (mixed && ipv4address s))
        (λ e.
        let k : suc n ≡ 1 = eqb-true (suc n) 1 (and_left (eqb (suc n) 1) (h16 s) e) in
        let g : h16 s ≡ true = and_right (eqb (suc n) 1) (h16 s) e in
        rw (k, in_group s l g) (sized_one (group_small s g)))
        (λ e.
        let k : suc n ≡ 2 = eqb-true (suc n) 2 (and_left (eqb (suc n) 2) (mixed && ipv4address s) e) in
        let g : ipv4address s ≡ true = and_right mixed (ipv4address s) (and_right (eqb (suc n) 2) (mixed && ipv4address s) e) in
        rw (k, in_four s g) (pairs_sized (octets_of s) (four_sized s g)))
        (sym (begun_last mixed s l (suc n)) ∙ h)

side_sized : (mixed : Bool) (n : ℕ) (s : List ℕ) → groups mixed n s ≡ true → Sized n 65536 (side_groups s)
side_sized mixed zero [] h = unfold side_groups in sized_none 65536 (omega arith)
side_sized mixed zero (x ∷ s) h = unfold groups nothing in clash (cc)
side_sized mixed (suc n) [] h = clash (cc (h, groups_nil mixed n))
side_sized mixed (suc n) (x ∷ s) h =
    rw (side_in (x ∷ s) (λ e. omega arith)) (begun_sized mixed (suc n) (x ∷ s) (unfold begun in h))

filled_sized : (a b : ℕ) (l r : List ℕ) → a + b ≤ 8 → Sized a 65536 l → Sized b 65536 r → Sized 8 65536 (filled l r)
filled_sized a b l r h k m =
    let z : a + (8 - (length l + length r)) + b ≡ 8 = omega (arith, k.count, m.count) in
    rw z at
    (sized_append (a + (8 - (length l + length r))) b 65536 _ r
    (sized_append a (8 - (length l + length r)) 65536 l _ k (sized_zeros (8 - (length l + length r)) 65536 (omega arith))) m)

-- a number of which a test is true
record Found (n : ℕ) (f : ℕ → Bool) : Type 0 where
  number : ℕ
  within : number < n
  is : f number ≡ true

any_some : (n : ℕ) (f : ℕ → Bool) → any n f ≡ true → Found n f
unfolding any
any_some zero f h = clash (cc)
any_some (suc n) f h =
    or_elim (f 0) (any n (λ m. f (suc m))) (λ e. record { number = 0; within = omega arith; is = e })
    (λ e. let r = any_some n (λ m. f (suc m)) e in record { number = suc r.number; within = omega (arith, r.within); is = r.is }) h

-- the groups of an IPv6address
pub six_sized : (s : List ℕ) → ipv6address s ≡ true → Sized 8 65536 (groups_of s)
unfolding groups_of
six_sized s h = by_bool (ltb (before_pair 58 58 s) (length s)) (λ e. simp e (gap e)) (λ e. simp e (whole e))
  where
    forms : (groups true 8 s || any 8 (λ a. form a (7 - a) s)) ≡ true
    forms = sym (six_forms s) ∙ h

    whole : ltb (before_pair 58 58 s) (length s) ≡ false → Sized 8 65536 (side_groups s)
    whole e =
        side_sized true 8 s
        (sym (or-false (groups true 8 s)) ∙ (rw (any_none 8 (λ a. form a (7 - a) s) (λ a k. rw e)) at forms))

    sides : (a : ℕ) → a < 8 → form a (7 - a) s ≡ true
        → Sized 8 65536 (filled (side_groups (take (before_pair 58 58 s) s)) (side_groups (drop (before_pair 58 58 s + 2) s)))
    sides a l f =
        let d : before_pair 58 58 s + 2 ≡ suc (suc (before_pair 58 58 s)) = omega arith in
        let k = and_right (ltb (before_pair 58 58 s) (length s)) _ f in
        let most = and_left (at_most a (take (before_pair 58 58 s) s)) _ k in
        let left = any_some (suc a) (λ m. groups false m (take (before_pair 58 58 s) s)) most in
        let right = and_right (at_most a (take (before_pair 58 58 s) s)) _ k in
        rw d
        (filled_sized left.number (7 - a) (side_groups (take (before_pair 58 58 s) s)) (side_groups (drop (suc (suc (before_pair 58 58 s))) s))
        (omega (arith, left.within)) (side_sized false left.number _ left.is) (side_sized true (7 - a) _ right))

    gap : ltb (before_pair 58 58 s) (length s) ≡ true
        → Sized 8 65536 (filled (side_groups (take (before_pair 58 58 s) s)) (side_groups (drop (before_pair 58 58 s + 2) s)))
    gap e =
        let r = any_some 8 (λ a. form a (7 - a) s) (rw (no_eight s (ltb-true (before_pair 58 58 s) (length s) e)) at forms) in
        sides r.number r.within r.is

pub address_sized : AddressSized
unfolding ip_address_of
address_sized = record { octets = of_four; groups = of_six }
  where
    of_four : (s os : List ℕ) → ip_address_of s ≡ Some (four os) → Sized 4 256 os
    of_four s os e =
        by_bool (ipv4address s) (λ f. let k : octets_of s ≡ os = cc (simp f at e) in rw k at (four_sized s f))
        (λ f. by_bool (ipv6address s) (λ g. clash (cc (simp (f, g) at e))) (λ g. clash (cc (simp (f, g) at e))))

    of_six : (s gs : List ℕ) → ip_address_of s ≡ Some (six gs) → Sized 8 65536 gs
    of_six s gs e =
        by_bool (ipv4address s) (λ f. clash (cc (simp f at e)))
        (λ f. by_bool (ipv6address s) (λ g. let k : groups_of s ≡ gs = cc (simp (f, g) at e) in rw k at (six_sized s g)) (λ g. clash (cc (simp (f, g) at e))))
