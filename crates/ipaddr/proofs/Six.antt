-- IPv6address: the nine forms, by the place of the first "::" and the groups on its two sides. Assumes nothing.
use Prim.Native.Nat.{ℕ, zero, suc, ◌+◌, ◌-◌, ◌≤◌, ◌<◌}
use mathlib.Core.Path.{◌≡◌, refl, sym, ap, subst, ◌∙◌, fun_ext}
use mathlib.Core.Bool.{Bool, true, false, ◌&&◌, ◌||◌, and-true, and-false, or-false}
use mathlib.Core.List.{List, [], ◌∷◌, ◌++◌}
use native.Mathlib.Omega.{arith}
use lib.Dec.{leb, ltb, eqb, leb-suc-suc, eqb-suc-suc, eqb-zero-suc, eqb-suc-zero}
use lib.ListN.{length, take, drop}
use borrow.Author.Tests.{lt-leb, lt-ltb, le-ltb, eq-eqb, ne_eqb, eqb-true}
use Rattle.std.specs.Prelude.{Option, Some, None}
use Rattle.text.specs.Find.{before, before_pair}
use Rattle.text.proofs.Bools.{both_ways, clash}
use Rattle.text.proofs.Left.{rest, rest_is}
use Rattle.text.proofs.Cuts.{cut_pair, pair_whole}
use Rattle.abnf.specs.Rule.{Rule, nothing, letter, ◌or◌, ◌then◌, maybe, times, upto}
use Rattle.abnf.proofs.Rules.{Tidy, cut, cut_then, cut_or, cut_none, then_or, then_assoc, nothing_then, then_nothing}
use Rattle.abnf.proofs.Places.{then_pair_at, cut_bad}
use Rattle.abnf.proofs.Free.{lacks_nothing}
use Rattle.ipaddr.specs.Address.{h16, h16colon, double_colon, ls32, ipv4address, ipv6address, ip_address}
use Rattle.ipaddr.specs.Private.Groups.{groups, Counted}
use Rattle.ipaddr.proofs.Four.{four_lacks}
use Rattle.ipaddr.proofs.Groups.{no_group, group_lacks, groups_cut, begun, begun_colon, groups_nil}

-- a test at one of the numbers below n
unfoldable pub any : ℕ → (ℕ → Bool) → Bool
any zero f = false
any (suc n) f = f 0 || any n (λ m. f (suc m))

any_same : (n : ℕ) (f g : ℕ → Bool) → ((m : ℕ) → m < n → f m ≡ g m) → any n f ≡ any n g
unfolding any
any_same zero f g h = refl
any_same (suc n) f g h =
    rw (h 0 (omega arith), any_same n (λ m. f (suc m)) (λ m. g (suc m)) (λ m k. h (suc m) (omega arith)))

pub any_none : (n : ℕ) (f : ℕ → Bool) → ((m : ℕ) → m < n → f m ≡ false) → any n f ≡ false
unfolding any
any_none zero f h = refl
any_none (suc n) f h = rw (h 0 (omega arith)) (any_none n (λ m. f (suc m)) (λ m k. h (suc m) (omega arith)))

any_pick : (n : ℕ) (f : ℕ → Bool) (k : ℕ) → any n (λ m. f m && eqb m k) ≡ ltb k n && f k
unfolding any
any_pick zero f k = rw (le-ltb k 0 (omega arith))
any_pick (suc n) f zero =
    rw (any_none n (λ m. f (suc m) && eqb (suc m) 0) (λ m h. rw (eqb-suc-zero m) (and-false (f (suc m)))), lt-ltb 0 (suc n) (omega arith))
    (or-false (f 0 && true) ∙ and-true (f 0))
any_pick (suc n) f (suc k) =
    rw (eqb-zero-suc k, and-false (f 0))
    (any_same n (λ m. f (suc m) && eqb (suc m) (suc k)) (λ m. f (suc m) && eqb m k) (λ m h. rw (eqb-suc-suc m k))
    ∙ any_pick n (λ m. f (suc m)) k
    ∙ rw (leb-suc-suc (suc k) n))

any_8 : (f : ℕ → Bool) → any 8 f ≡ f 0 || (f 1 || (f 2 || (f 3 || (f 4 || (f 5 || (f 6 || f 7))))))
unfolding any
any_8 f = rw (or-false (f 7))

-- groups have no "::" and do not end in a colon
groups_colon : (four : Bool) (m : ℕ) (t : List ℕ) → groups four (suc m) (58 ∷ t) ≡ false
unfolding begun before
groups_colon four m t = begun_colon four (58 ∷ t) (omega arith) (suc m) ∙ rw no_group

groups_bad : (four : Bool) (t : List ℕ) → ((m : ℕ) → groups four (suc m) t ≡ false) → (n : ℕ) (u : List ℕ)
    → groups four n (u ++ 58 ∷ t) ≡ false
groups_bad four t h zero u = unfold groups in lacks_nothing.free u t
groups_bad four t h (suc zero) u = unfold groups in group_lacks.free u t
groups_bad four t h (suc (suc n)) u =
    groups_cut four n (u ++ 58 ∷ t)
    ∙ rw (cut_bad 58 h16 (groups four (suc n)) t (h n) (groups_bad four t h (suc n)) u)
    (rw (four_lacks.free u t, and-false four, and-false (eqb n 0)))

tidy_groups : (four : Bool) (n : ℕ) → Tidy 58 (groups four n)
tidy_groups four n =
    record {
      last = λ s. groups_bad four [] (groups_nil four) n s;
      double = λ s t. groups_bad four (58 ∷ t) (λ m. groups_colon four m t) n s;
    }

-- at most a groups
abbrev pub at_most : ℕ → Rule
at_most a s = any (suc a) (λ m. groups false m s)

tidy_most : (a : ℕ) → Tidy 58 (at_most a)
tidy_most a =
    record {
      last = λ s. any_none (suc a) _ (λ m h. (tidy_groups false m).last s);
      double = λ s t. any_none (suc a) _ (λ m h. (tidy_groups false m).double s t);
    }

-- what the grammar writes before a "::"
repeat_then : (p q : Rule) (s : List ℕ) → ((h16colon then p) then q) s ≡ (h16 then letter ":" then (p then q)) s
unfolding h16colon
repeat_then p q s = then_assoc h16colon p q s ∙ then_assoc h16 (letter ":") (p then q) s

cut_any : (c : ℕ) (p : Rule) (n : ℕ) (q : ℕ → Rule) (s : List ℕ) → cut c p (λ t. any n (λ m. q m t)) s ≡ any n (λ m. cut c p (q m) s)
unfolding any
cut_any c p zero q s = cut_none c p s
cut_any c p (suc n) q s = cut_or c p (q 0) (λ t. any n (λ m. q (suc m) t)) s ∙ rw (cut_any c p n (λ m. q (suc m)) s)

-- one more group in front
more_groups : (n : ℕ) (s : List ℕ)
    → (h16 then letter ":" then (λ t. any n (λ m. groups false (suc m) t))) s ≡ any n (λ m. groups false (suc (suc m)) s)
more_groups n s =
    cut_then 58 h16 (λ t. any n (λ m. groups false (suc m) t)) group_lacks.free s
    ∙ cut_any 58 h16 n (λ m. groups false (suc m)) s
    ∙ any_same n _ (λ m. groups false (suc (suc m)) s)
    (λ m h. sym (groups_cut false m s ∙ rw (and-false (eqb m 0)) (or-false (cut 58 h16 (groups false (suc m)) s))))

upto_groups : (k : ℕ) (s : List ℕ) → (upto k h16colon then h16) s ≡ any (suc k) (λ m. groups false (suc m) s)
unfolding upto ◌or◌ any groups
upto_groups zero s = nothing_then h16 s ∙ sym (or-false (h16 s))
upto_groups (suc k) s =
    then_or nothing (h16colon then upto k h16colon) h16 s
    ∙ rw (nothing_then h16 s, repeat_then (upto k h16colon) h16 s, fun_ext {f = upto k h16colon then h16} (upto_groups k))
    (ap (λ (b : Bool). h16 s || b) (more_groups (suc k) s))

left_0 : nothing ≡ at_most 0
unfolding any groups
left_0 = fun_ext (λ s. sym (or-false (nothing s)))

left_1 : maybe h16 ≡ at_most 1
unfolding any groups ◌or◌
left_1 = fun_ext (λ s. ap (λ (b : Bool). nothing s || b) (sym (or-false (h16 s))))

left_more : (k : ℕ) → maybe (upto k h16colon then h16) ≡ at_most (suc k)
unfolding any groups ◌or◌
left_more k = fun_ext (λ s. ap (λ (b : Bool). nothing s || b) (upto_groups k s))

-- what the grammar writes behind it
ls32_groups : ls32 ≡ groups true 2
unfolding ls32 groups ◌or◌
ls32_groups = refl

groups_suc : (n : ℕ) → (h16 then letter ":" then groups true (suc (suc n))) ≡ groups true (suc (suc (suc n)))
unfolding groups
groups_suc n = refl

times_groups : (n : ℕ) → (times n h16colon then ls32) ≡ groups true (suc (suc n))
unfolding times
times_groups zero = fun_ext (λ s. nothing_then ls32 s) ∙ ls32_groups
times_groups (suc n) =
    fun_ext (λ s. repeat_then (times n h16colon) ls32 s) ∙ ap (λ (r : Rule). h16 then letter ":" then r) (times_groups n) ∙ groups_suc n

once_groups : (h16colon then ls32) ≡ groups true 3
unfolding h16colon
once_groups = fun_ext (λ s. then_assoc h16 (letter ":") ls32 s) ∙ ap (λ (r : Rule). h16 then letter ":" then r) ls32_groups ∙ groups_suc 0

-- at most a groups, the first "::" and b groups
abbrev pub form : ℕ → ℕ → Rule
form a b s =
    ltb (before_pair 58 58 s) (length s)
    && (at_most a (take (before_pair 58 58 s) s) && groups true b (drop (suc (suc (before_pair 58 58 s))) s))

form_is : (a b : ℕ) (p q : Rule) → p ≡ at_most a → q ≡ groups true b → (p then double_colon then q) ≡ form a b
unfolding double_colon
form_is a b p q e f = rw (e, f) (fun_ext (then_pair_at 58 (at_most a) (groups true b) (tidy_most a)))

form_0 : (double_colon then times 5 h16colon then ls32) ≡ form 0 7
form_0 = fun_ext (λ s. sym (nothing_then (double_colon then times 5 h16colon then ls32) s)) ∙ form_is 0 7 nothing _ left_0 (times_groups 5)

form_7 : (maybe (upto 6 h16colon then h16) then double_colon) ≡ form 7 0
unfolding groups
form_7 =
    ap (λ (r : Rule). maybe (upto 6 h16colon then h16) then r) (fun_ext (λ s. sym (then_nothing double_colon s)))
    ∙ form_is 7 0 _ nothing (left_more 6) refl

h16_groups : h16 ≡ groups true 1
unfolding groups
h16_groups = refl

pub six_forms : (s : List ℕ) → ipv6address s ≡ groups true 8 s || any 8 (λ a. form a (7 - a) s)
unfolding ipv6address ◌or◌
six_forms s =
    rw (
      times_groups 6,
      form_0,
      form_is 1 6 (maybe h16) (times 4 h16colon then ls32) left_1 (times_groups 4),
      form_is 2 5 (maybe (upto 1 h16colon then h16)) (times 3 h16colon then ls32) (left_more 1) (times_groups 3),
      form_is 3 4 (maybe (upto 2 h16colon then h16)) (times 2 h16colon then ls32) (left_more 2) (times_groups 2),
      form_is 4 3 (maybe (upto 3 h16colon then h16)) (h16colon then ls32) (left_more 3) once_groups,
      form_is 5 2 (maybe (upto 4 h16colon then h16)) ls32 (left_more 4) ls32_groups,
      form_is 6 1 (maybe (upto 5 h16colon then h16)) h16 (left_more 5) h16_groups,
      form_7,
    )
    (ap (λ (b : Bool). groups true 8 s || b) (sym (any_8 (λ a. form a (7 - a) s))))

-- the counts on the two sides
most_counted : (a m : ℕ) (l : List ℕ) → Counted false l (Some a) → m ≤ 7 → at_most m l ≡ leb a m
most_counted a m l c h =
    any_same (suc m) (λ k. groups false k l) (λ k. true && eqb k a) (λ k g. c k (omega arith))
    ∙ any_pick (suc m) (λ k. true) a
    ∙ and-true (ltb a (suc m))
    ∙ leb-suc-suc a m

-- eight groups have no "::"
pub no_eight : (s : List ℕ) → before_pair 58 58 s < length s → groups true 8 s ≡ false
no_eight s h =
    ap (groups true 8) (sym (cut_pair 58 58 s h))
    ∙ (tidy_groups true 8).double (take (before_pair 58 58 s) s) (drop (suc (suc (before_pair 58 58 s))) s)

-- `is_ipv6_address`
module _ (s : List ℕ) (g : ℕ) (eg : g ≡ before_pair 58 58 s) where
  six_plain : length s ≤ g → ipv6address s ≡ groups true 8 s
  six_plain h =
      six_forms s
      ∙ rw (any_none 8 (λ a. form a (7 - a) s) (λ a k. rw (← eg, le-ltb g (length s) h)))
      (or-false (groups true 8 s))

  pub six_eight : length s ≤ g → (r : Option ℕ) → Counted true s r → r ≡ Some 8 → true ≡ ipv6address s
  six_eight h None c e = clash (cc)
  six_eight h (Some n) c e = let k : n ≡ 8 = cc in sym (six_plain h ∙ c 8 (omega arith) ∙ eq-eqb 8 n (omega arith))

  pub six_other : length s ≤ g → (r : Option ℕ) → Counted true s r → (r ≡ Some 8 → ⊥) → false ≡ ipv6address s
  six_other h None c e = sym (six_plain h ∙ c 8 (omega arith))
  six_other h (Some n) c e = sym (six_plain h ∙ c 8 (omega arith) ∙ ne_eqb 8 n (λ k. e (ap Some (sym k))))

  pub six_whole : g < length s → g + 2 ≤ length s
  six_whole h = omega (arith, pair_whole 58 58 s (omega arith))

  module _ (h : g < length s) where
    sides : ipv6address s ≡ any 8 (λ m. at_most m (take g s) && groups true (7 - m) (drop (g + 2) s))
    sides =
        let e : suc (suc g) ≡ g + 2 = omega arith in
        six_forms s ∙ rw (no_eight s (omega arith)) (any_same 8 _ _ (λ m k. rw (← eg, lt-ltb g (length s) h, e)))

    -- a side that is no number of groups
    pub six_left : (a : Option ℕ) → Counted false (take g s) a → a ≡ None → false ≡ ipv6address s
    six_left (Some a) c e = clash (cc)
    six_left None c e =
        sym (sides ∙ any_none 8 _ (λ m k. rw (any_none (suc m) (λ j. groups false j (take g s)) (λ j l. c j (omega arith)))))

    pub six_right : (b : Option ℕ) → Counted true (rest (g + 2) s) b → b ≡ None → false ≡ ipv6address s
    six_right (Some b) c e = clash (cc)
    six_right None c e =
        sym (sides ∙ any_none 8 _ (λ m k. rw (← rest_is (g + 2) s, c (7 - m) (omega arith)) (and-false (at_most m (take g s)))))

  -- the counts of both sides
  module _ (h : g < length s) (x y : Option ℕ) (a b : ℕ) (cx : Counted false (take g s) x) (ex : x ≡ Some a)
      (cy : Counted true (rest (g + 2) s) y) (ey : y ≡ Some b) where
    counted : ipv6address s ≡ any 8 (λ m. leb a m && eqb (7 - m) b)
    counted =
        let ca = subst (Counted false (take g s)) ex cx in
        let cb = subst (Counted true (rest (g + 2) s)) ey cy in
        sides h
        ∙ any_same 8 _ _ (λ m k. rw (most_counted a m (take g s) ca (omega arith), ← rest_is (g + 2) s, cb (7 - m) (omega arith)))

    pub six_many : 7 < b → leb b 7 ≡ ipv6address s
    six_many k =
        lt-leb b 7 k ∙ sym (counted ∙ any_none 8 _ (λ m l. rw (ne_eqb (7 - m) b (λ e. omega arith)) (and-false (leb a m))))

    pub six_few : b ≤ 7 → leb a (7 - b) ≡ ipv6address s
    six_few k =
        sym
        (counted
        ∙ any_same 8 _ (λ m. leb a m && eqb m (7 - b)) (λ m l. ap (λ (t : Bool). leb a m && t) (turn m (omega arith)))
        ∙ any_pick 8 (leb a) (7 - b)
        ∙ rw (lt-ltb (7 - b) 8 (omega arith)))
      where
        turn : (m : ℕ) → m ≤ 7 → eqb (7 - m) b ≡ eqb m (7 - b)
        turn m l =
            both_ways (eqb (7 - m) b) (eqb m (7 - b))
            (λ e. eq-eqb m (7 - b) (omega (arith, eqb-true (7 - m) b e)))
            (λ e. eq-eqb (7 - m) b (omega (arith, eqb-true m (7 - b) e)))

-- `is_ip_address`
module _ (s : List ℕ) (t : Bool) (et : t ≡ ipv4address s) where
  pub address_four : t ≡ true → true ≡ ip_address s
  unfolding ip_address ◌or◌
  address_four e = sym (rw (← et, e))

  pub address_six : t ≡ false → (r : Bool) → r ≡ ipv6address s → r ≡ ip_address s
  unfolding ip_address ◌or◌
  address_six e r er = sym (rw (← et, e) (sym er))

pub ruleset laws = (six_eight, six_other, six_left, six_right, six_whole, six_many, six_few, address_four, address_six)
