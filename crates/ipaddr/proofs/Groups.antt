-- The groups of an IPv6address: their digits, and how many there are between colons. Assumes nothing.
use Prim.Native.Nat.{ℕ, zero, suc, ◌+◌, ◌-◌, ◌≤◌, ◌<◌}
use mathlib.Core.Path.{◌≡◌, refl, sym, ap, ◌∙◌}
use mathlib.Core.Bool.{Bool, true, false, ◌&&◌, ◌||◌, and-true, and-false, or-false}
use mathlib.Core.List.{List, [], ◌∷◌}
use native.Mathlib.Omega.{arith}
use lib.Dec.{leb, ltb, eqb, leb-suc-suc, eqb-suc-suc, eqb-suc-zero}
use lib.ListN.{length, take, drop, length-drop}
use borrow.Author.Tests.{le-leb, lt-leb, leb-true, lt-ltb, le-ltb, eq-eqb, ne_eqb, eqb-true, eqb-false, not-true, not-false}
use Rattle.std.specs.Prelude.{Some, None}
use Rattle.std.specs.List.{list_all}
use Rattle.text.specs.Find.{before}
use Rattle.text.proofs.Bools.{by_bool, clash, both_ways, and_right}
use Rattle.text.proofs.Left.{rest, rest_is}
use Rattle.number.specs.Hex.{between, hex_digit}
use Rattle.abnf.specs.Rule.{Rule, nothing, range, ◌or◌, ◌then◌, upto}
use Rattle.abnf.proofs.Rules.{cut, cut_then, then_none, has_free}
use Rattle.abnf.proofs.Places.{cut_at, free_at}
use Rattle.abnf.proofs.Free.{Lacks, free_laws}
use Rattle.ipaddr.specs.Address.{hexdig, h16, ipv4address}
use Rattle.ipaddr.specs.Private.Groups.{groups, Counted}
use Rattle.ipaddr.proofs.Four.{four_lacks, four_dot, four_nil}

-- a byte is HEXDIG exactly where it has a value below 16
hexdig_is : (x : ℕ) → hexdig (x ∷ []) ≡ ltb (hex_digit x) 16
unfolding hexdig hex_digit ◌or◌ range
hexdig_is x =
    by_bool (between 48 57 x) (λ e. rw e (small 48 57 (x - 48) e (λ h. omega arith)))
    (λ e. by_bool (between 65 70 x) (λ f. rw (e, f) (small 65 70 (x - 65 + 10) f (λ h. omega arith)))
    (λ f. by_bool (between 97 102 x) (λ g. rw (e, f, g) (small 97 102 (x - 97 + 10) g (λ h. omega arith))) (λ g. rw (e, f, g))))
  where
    small : (a z v : ℕ) → between a z x ≡ true → (x ≤ z → v < 16) → true ≡ ltb v 16
    small a z v e h = sym (lt-ltb v 16 (h (leb-true x z (and_right (leb a x) (leb x z) e))))

hexdig_then : (q : Rule) (x : ℕ) (s : List ℕ) → (hexdig then q) (x ∷ s) ≡ ltb (hex_digit x) 16 && q s
hexdig_then q x s = go s ∙ rw (hexdig_is x)
  where
    go : (s : List ℕ) → (hexdig then q) (x ∷ s) ≡ hexdig (x ∷ []) && q s
    go [] = unfold hexdig ◌or◌ ◌then◌ range in refl
    go (y ∷ s) =
        unfold hexdig ◌or◌ ◌then◌ range in
        rw (then_none (λ t. hexdig (x ∷ y ∷ t)) q (λ t. refl) s) (or-false (hexdig (x ∷ []) && q (y ∷ s)))

unfoldable pub all_hex : List ℕ → Bool
all_hex s = list_all (λ x. ltb (hex_digit x) 16) s

swap : (a b c : Bool) → a && (b && c) ≡ b && (a && c)
swap true b c = refl
swap false b c = sym (and-false b)

upto_hex : (n : ℕ) (s : List ℕ) → upto n hexdig s ≡ leb (length s) n && all_hex s
unfolding upto nothing ◌or◌ all_hex
upto_hex zero [] = refl
upto_hex zero (x ∷ s) = rw (lt-leb (length (x ∷ s)) 0 (omega arith))
upto_hex (suc n) [] = rw (le-leb 0 (suc n) (omega arith))
upto_hex (suc n) (x ∷ s) =
    rw (hexdig_then (upto n hexdig) x s, upto_hex n s, leb-suc-suc (length s) n) (swap (ltb (hex_digit x) 16) (leb (length s) n) (all_hex s))

pub group_is : (s : List ℕ) → (length s ≡ 0 → ⊥) → h16 s ≡ leb (length s) 4 && all_hex s
unfolding h16 all_hex
group_is [] h = absurd (h refl)
group_is (x ∷ s) h =
    rw (hexdig_then (upto 3 hexdig) x s, upto_hex 3 s, leb-suc-suc (length s) 3) (swap (ltb (hex_digit x) 16) (leb (length s) 3) (all_hex s))

pub no_group : h16 [] ≡ false
unfolding h16 hexdig ◌or◌ ◌then◌ range
no_group = refl

-- `is_h16`
pub h16_empty : (s : List ℕ) → length s < 1 → false ≡ h16 s
h16_empty [] h = sym no_group
h16_empty (x ∷ s) h = absurd (omega arith)

pub h16_long : (s : List ℕ) → 5 ≤ length s → false ≡ h16 s
h16_long s h = sym (group_is s (λ e. omega arith) ∙ rw (lt-leb (length s) 4 (omega arith)))

pub h16_hex : (s : List ℕ) (r : Bool) → 1 ≤ length s → length s < 5 → r ≡ list_all (λ x. ltb (hex_digit x) 16) s → r ≡ h16 s
unfolding all_hex
h16_hex s r h k er = er ∙ sym (group_is s (λ e. omega arith) ∙ rw (le-leb (length s) 4 (omega arith)))

pub ruleset h16_laws = (h16_empty, h16_long, h16_hex)

-- no colon and no dot in a group
pub group_lacks : Lacks 58 h16
unfolding h16 hexdig
group_lacks = search free_laws depth 20

group_no_dot : Lacks 46 h16
unfolding h16 hexdig
group_no_dot = search free_laws depth 20

-- one group, or an IPv4address, and not both
pub one_of : (s : List ℕ) → h16 s ≡ true → ipv4address s ≡ false
one_of s h = by_bool (ipv4address s) (λ e. clash (cc (has_free 46 h16 s group_no_dot.free (four_dot s e)))) (λ e. e)

-- a colon and n + 1 groups more
pub groups_cut : (four : Bool) (n : ℕ) (s : List ℕ)
    → groups four (suc (suc n)) s ≡ cut 58 h16 (groups four (suc n)) s || (eqb n 0 && (four && ipv4address s))
unfolding groups ◌or◌
groups_cut four zero s = rw (cut_then 58 h16 h16 group_lacks.free s)
groups_cut four (suc n) s =
    rw (cut_then 58 h16 (groups four (suc (suc n))) group_lacks.free s, eqb-suc-zero) (sym (or-false (cut 58 h16 (groups four (suc (suc n))) s)))

-- n groups, one at least
unfoldable pub begun : Bool → ℕ → Rule
begun four zero s = false
begun four (suc n) s = groups four (suc n) s

module _ (four : Bool) (t : List ℕ) where
  -- up to the first colon one group
  pub begun_colon : before 58 t < length t → (n : ℕ)
      → begun four n t ≡ h16 (take (before 58 t) t) && begun four (n - 1) (drop (suc (before 58 t)) t)
  unfolding begun groups
  begun_colon h zero = sym (and-false (h16 (take (before 58 t) t)))
  begun_colon h (suc zero) = free_at 58 h16 group_lacks.free t h ∙ sym (and-false (h16 (take (before 58 t) t)))
  begun_colon h (suc (suc n)) =
      let e : suc (suc n) - 1 ≡ suc n = omega arith in
      groups_cut four n t
      ∙ rw (e, cut_at 58 h16 (groups four (suc n)) t, lt-ltb (before 58 t) (length t) h)
      (rw (free_at 58 ipv4address four_lacks.free t h, and-false four, and-false (eqb n 0)) (or-false _))

  -- no colon: one group, or an IPv4address for two
  pub begun_last : length t ≤ before 58 t → (n : ℕ) → begun four n t ≡ (eqb n 1 && h16 t) || (eqb n 2 && (four && ipv4address t))
  unfolding begun groups
  begun_last h zero = refl
  begun_last h (suc zero) = sym (or-false (h16 t))
  begun_last h (suc (suc n)) =
      groups_cut four n t
      ∙ rw (cut_at 58 h16 (groups four (suc n)) t, le-ltb (before 58 t) (length t) h)
      (rw (eqb-suc-suc (suc n) 0, eqb-suc-zero n, eqb-suc-suc (suc n) 1, eqb-suc-suc n 0))

-- `count_groups`: what is left is to be done groups fewer, and n is the place of its first colon
pub record Counting (four : Bool) (s : List ℕ) (done : ℕ) (left : List ℕ) (n : ℕ) : Type 0 where
  pub few : done + length left ≤ length s
  pub place : n ≡ before 58 left
  pub so_far : (m : ℕ) → groups four m s ≡ begun four (m - done) left

nothing_some : (s : List ℕ) → (length s ≡ 0 → ⊥) → nothing s ≡ false
unfolding nothing
nothing_some [] h = absurd (h refl)
nothing_some (x ∷ s) h = refl

pub groups_nil : (four : Bool) (n : ℕ) → groups four (suc n) [] ≡ false
unfolding begun
groups_nil four n =
    begun_last four [] (omega arith) (suc n)
    ∙ rw (no_group, four_nil, and-false four, and-false (eqb (suc n) 1), and-false (eqb (suc n) 2))

pub count_empty : (four : Bool) (s : List ℕ) → length s ≡ 0 → Counted four s (Some 0)
count_empty four [] h zero k = unfold groups nothing in refl
count_empty four [] h (suc n) k = groups_nil four n ∙ sym (eqb-suc-zero n)
count_empty four (x ∷ s) h n k = absurd (omega arith)

pub count_start : (four : Bool) (s : List ℕ) (n : ℕ) (b : Bool) → b ≡ eqb (length s) 0 → b ≡ false → n ≡ before 58 s → Counting four s 0 s n
unfolding begun groups
count_start four s n b eb f e = record { few = omega arith; place = e; so_far = go }
  where
    go : (m : ℕ) → groups four m s ≡ begun four (m - 0) s
    go zero = nothing_some s (eqb-false (length s) 0 (sym eb ∙ f))
    go (suc m) = let e : suc m - 0 ≡ suc m = omega arith in rw e

-- the number of groups left, and the number of all
all_groups : (m done k : ℕ) → 0 < k → eqb (m - done) k ≡ eqb m (done + k)
all_groups m done k h =
    both_ways (eqb (m - done) k) (eqb m (done + k))
    (λ e. eq-eqb m (done + k) (omega (arith, eqb-true (m - done) k e)))
    (λ e. eq-eqb (m - done) k (omega (arith, eqb-true m (done + k) e)))

module _ {four : Bool} {s : List ℕ} {done : ℕ} {left : List ℕ} {n : ℕ} (inv : Counting four s done left n) where
  module _ (h : n < length left) (r : Bool) (er : r ≡ h16 (take n left)) where
    step : (m : ℕ) → groups four m s ≡ r && begun four (m - done - 1) (drop (n + 1) left)
    step m =
        let k : suc n ≡ n + 1 = omega arith in
        inv.so_far m ∙ begun_colon four left (omega (arith, inv.place)) (m - done) ∙ rw (er, ← inv.place, k)

    pub count_bad : r ≡ false → Counted four s None
    count_bad e m k = step m ∙ rw e

    pub count_next : r ≡ true → (k : ℕ) → k ≡ before 58 (rest (n + 1) left) → Counting four s (done + 1) (rest (n + 1) left) k
    count_next e k ek =
        record {
          few = omega (arith, inv.few, ap length (rest_is (n + 1) left), length-drop (n + 1) left);
          place = ek;
          so_far = λ m. let d : m - done - 1 ≡ m - (done + 1) = omega arith in step m ∙ rw (e, d, rest_is (n + 1) left);
        }

  module _ (h : length left ≤ n) (r : Bool) (er : r ≡ h16 left) where
    last : (m : ℕ) → groups four m s ≡ (eqb (m - done) 1 && r) || (eqb (m - done) 2 && (four && ipv4address left))
    last m = inv.so_far m ∙ begun_last four left (omega (arith, inv.place)) (m - done) ∙ rw er

    pub count_one : r ≡ true → Counted four s (Some (done + 1))
    count_one e m k =
        last m
        ∙ rw (e, one_of left (sym er ∙ e), and-false four, and-false (eqb (m - done) 2), and-true (eqb (m - done) 1))
        (or-false (eqb (m - done) 1) ∙ all_groups m done 1 (omega arith))

    module _ (e : r ≡ false) where
      pub count_plain : four ≡ false → Counted four s None
      count_plain f m k = last m ∙ rw (e, f, and-false (eqb (m - done) 1), and-false (eqb (m - done) 2))

      module _ (t : Bool) (f : four ≡ true) (et : t ≡ ipv4address left) where
        tail : (m : ℕ) → groups four m s ≡ eqb (m - done) 2 && t
        tail m = last m ∙ rw (e, f, et, and-false (eqb (m - done) 1))

        pub count_four : t ≡ true → Counted four s (Some (done + 2))
        count_four g m k = tail m ∙ rw (g, and-true (eqb (m - done) 2)) (all_groups m done 2 (omega arith))

        pub count_none : t ≡ false → Counted four s None
        count_none g m k = tail m ∙ rw (g, and-false (eqb (m - done) 2))

pub ruleset laws = (count_empty, count_start, count_bad, count_next, count_one, count_plain, count_four, count_none, not-true, not-false)
