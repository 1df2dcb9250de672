-- The groups of a text with colons between them: those before a place are held. Assumes nothing.
use Prim.Native.Nat.{ℕ, suc, ◌+◌, ◌*◌, ◌-◌, ◌≤◌, ◌<◌}
use mathlib.Core.Path.{◌≡◌, refl, sym, ap, subst, ◌∙◌}
use mathlib.Core.Bool.{Bool, true, false, ◌&&◌}
use mathlib.Core.List.{List, [], ◌∷◌, ◌++◌}
use native.Mathlib.Omega.{arith}
use lib.Dec.{eqb}
use lib.ListN.{length, take, get_or}
use borrow.Author.Tests.{ne_eqb, eqb-true, eqb-false}
use Rattle.std.specs.Prelude.{Option, Some, None}
use Rattle.text.specs.Find.{before}
use Rattle.text.proofs.Bools.{by_bool, and_left, and_right}
use Rattle.text.proofs.Left.{rest, rest_is}
use Rattle.ipaddr.specs.Address.{h16, ipv4address}
use Rattle.ipaddr.specs.Number.{octets_of, paired, side_groups}
use Rattle.ipaddr.specs.Private.Groups.{Counted}
use Rattle.ipaddr.specs.Private.Value.{valued, groups_in}
use Rattle.ipaddr.proofs.Groups as counts
use Rattle.ipaddr.proofs.Groups.{Counting, begun}
use Rattle.ipaddr.proofs.Number.{in_cut, in_group, in_four, side_in, four_sized}
use Rattle.ipnumber.specs.declared.Words.{Words}
use Rattle.ipnumber.specs.Private.Holding.{holding, group_of, pushed, pushed_on, octets_read, with_pairs, with_last, GroupsHeld, GroupsRead}
use Rattle.ipnumber.proofs.Held.{held_count, held_more, joined, by_room, push_full, push_held, push_none, push_some, group_none, group_some}
use Rattle.ipnumber.proofs.Octets.{is_four, not_four}

-- four octets two by two
pairs_are : (os : List ℕ) → length os ≡ 4 → paired os ≡ (get_or os 0 0 * 256 + get_or os 1 0) ∷ (get_or os 2 0 * 256 + get_or os 3 0) ∷ []
unfolding paired
pairs_are [] h = absurd (omega arith)
pairs_are (a ∷ []) h = absurd (omega arith)
pairs_are (a ∷ b ∷ []) h = absurd (omega arith)
pairs_are (a ∷ b ∷ c ∷ []) h = absurd (omega arith)
pairs_are (a ∷ b ∷ c ∷ d ∷ []) h = refl
pairs_are (a ∷ b ∷ c ∷ d ∷ e ∷ os) h = absurd (omega arith)

-- `read_last`
module _ (mixed : Bool) (w : Words) (s : List ℕ) (x : Option ℕ) (ex : x ≡ group_of s) where
  pub last_group : (g : ℕ) → x ≡ Some g → (r : Option Words) → r ≡ pushed w g → r ≡ with_last mixed w s
  unfolding with_last
  last_group g e r er = let t = group_some s x ex g e in er ∙ sym (rw (t.0, ← t.1))

  module _ (e : x ≡ None) where
    pub last_plain : mixed ≡ false → None ≡ with_last mixed w s
    unfolding with_last
    last_plain f = sym (rw (group_none s x ex e, f))

    module _ (f : mixed ≡ true) (o : Option (List ℕ)) (eo : o ≡ octets_read s) where
      pub last_none : o ≡ None → None ≡ with_last mixed w s
      unfolding with_last
      last_none k = sym (rw (group_none s x ex e, f, not_four s o eo k))

      pub last_four : (os : List ℕ) → o ≡ Some os → (r : Option Words) → r ≡ with_pairs w os → r ≡ with_last mixed w s
      unfolding with_last
      last_four os k r er = let t = is_four s o eo os k in er ∙ sym (rw (group_none s x ex e, f, t.0, ← t.1))

-- `read_groups`: the groups up to what is left are held; n is the place of its first colon
pub record Groups (mixed : Bool) (s : List ℕ) (w : Words) (left : List ℕ) (n : ℕ) : Type 0 where
  pub counting : Counting mixed s w.count left n
  pub numbers : List ℕ
  pub holds : w ≡ holding numbers
  pub so_far : numbers ++ groups_in left ≡ side_groups s

read_held : (mixed : Bool) (s : List ℕ) (r : Option Words) (w : Words) (l : List ℕ) → r ≡ Some w → w ≡ holding l → l ≡ side_groups s
    → Counted mixed s (Some w.count) → GroupsRead mixed s r
read_held mixed s r w l er e f c = subst (GroupsRead mixed s) (sym er) (record { counted = c; held = e ∙ ap holding f })

read_none : (mixed : Bool) (s : List ℕ) (r : Option Words) → r ≡ None → Counted mixed s None → GroupsRead mixed s r
read_none mixed s r er c = subst (GroupsRead mixed s) (sym er) c

pub groups_empty : (mixed : Bool) (s : List ℕ) (b : Bool) → b ≡ eqb (length s) 0 → b ≡ true → (w : Words) → w ≡ holding []
    → GroupsHeld mixed s w
groups_empty mixed [] b eb e w ew =
    record {
      counted = subst (λ (k : ℕ). Counted mixed [] (Some k)) (sym (held_count [] ew)) (counts.count_empty mixed [] refl);
      held = ew ∙ ap holding (unfold side_groups in refl);
    }
groups_empty mixed (x ∷ s) b eb e w ew = let z = eqb-true (length (x ∷ s)) 0 (sym eb ∙ e) in absurd (omega arith)

pub groups_start : (mixed : Bool) (s : List ℕ) (n : ℕ) (b : Bool) → b ≡ eqb (length s) 0 → b ≡ false → n ≡ before 58 s
    → (w : Words) → w ≡ holding [] → Groups mixed s w s n
groups_start mixed s n b eb f e w ew =
    record {
      counting = subst (λ (d : ℕ). Counting mixed s d s n) (sym (held_count [] ew)) (counts.count_start mixed s n b eb f e);
      numbers = [];
      holds = ew;
      so_far = sym (side_in s (eqb-false (length s) 0 (sym eb ∙ f)));
    }

module _ {mixed : Bool} {s : List ℕ} {w : Words} {left : List ℕ} {n : ℕ} (inv : Groups mixed s w left n) where
  -- eight groups are all
  full : 8 ≤ w.count → Counted mixed s None
  unfolding begun
  full h m k = let z : m - w.count ≡ 0 = omega arith in inv.counting.so_far m ∙ rw z

  module _ (h : n < length left) (x : Option ℕ) (ex : x ≡ group_of (take n left)) where
    pub groups_bad : x ≡ None → (q : Option Words) → q ≡ None → GroupsRead mixed s q
    groups_bad e q eq = read_none mixed s q eq (counts.count_bad inv.counting h false (sym (group_none (take n left) x ex e)) refl)

    module _ (g : ℕ) (eg : x ≡ Some g) (r : Option Words) (er : r ≡ pushed w g) where
      pub groups_full : r ≡ None → (q : Option Words) → q ≡ None → GroupsRead mixed s q
      groups_full e q eq = read_none mixed s q eq (full (push_none w g r er e))

      pub groups_next : (w' : Words) → r ≡ Some w' → (k : ℕ) → k ≡ before 58 (rest (n + 1) left) → Groups mixed s w' (rest (n + 1) left) k
      groups_next w' e k ek =
          let t = group_some (take n left) x ex g eg in
          let q = push_some w g r er inv.numbers inv.holds w' e in
          let j : suc n ≡ n + 1 = omega arith in
          let turn : groups_in left ≡ g ∷ groups_in (rest (n + 1) left)
          = in_cut left (omega (arith, inv.counting.place)) ∙ rw (← inv.counting.place, t.1, rest_is (n + 1) left, j) in
          record {
            counting =
                subst (λ (d : ℕ). Counting mixed s d (rest (n + 1) left) k) (sym (held_more inv.numbers g inv.holds q))
                (counts.count_next inv.counting h true (sym t.0) refl k ek);
            numbers = inv.numbers ++ g ∷ [];
            holds = q;
            so_far = joined inv.numbers g _ _ (ap (λ (l : List ℕ). inv.numbers ++ l) (sym turn) ∙ inv.so_far);
          }

  -- what is left has no colon
  module _ (h : length left ≤ n) where
    end_group : (r : Option Words) → h16 left ≡ true → r ≡ pushed w (valued 16 0 left) → GroupsRead mixed s r
    end_group r e er = by_room w more (λ all. read_none mixed s r (er ∙ sym (push_full w _ (omega arith))) (full all))
      where
        more : w.count < 8 → GroupsRead mixed s r
        more room =
            let v = valued 16 0 left in
            let q : r ≡ Some (holding (inv.numbers ++ v ∷ [])) = er ∙ push_held inv.numbers v inv.holds room in
            read_held mixed s r (holding (inv.numbers ++ v ∷ [])) (inv.numbers ++ v ∷ []) q refl
            (ap (λ (l : List ℕ). inv.numbers ++ l) (sym (in_group left (omega (arith, inv.counting.place)) e)) ∙ inv.so_far)
            (subst (λ (k : ℕ). Counted mixed s (Some k)) (sym (held_more inv.numbers v inv.holds refl))
            (counts.count_one inv.counting h true (sym e) refl))

    -- two words more, of an IPv4address
    module _ (a b : ℕ) (is : groups_in left ≡ a ∷ b ∷ []) where
      end_pair : (r : Option Words) → Counted mixed s (Some (w.count + 2)) → r ≡ pushed_on (pushed w a) b → GroupsRead mixed s r
      end_pair r c er = by_room w one_more_lem none_more
        where
          none_more : 8 ≤ w.count → GroupsRead mixed s r
          none_more all = read_none mixed s r (er ∙ rw (← push_full w a (omega arith))) (full all)

          one_more_lem : w.count < 8 → GroupsRead mixed s r
          one_more_lem room =
              let v = holding (inv.numbers ++ a ∷ []) in
              let p : pushed w a ≡ Some v = push_held inv.numbers a inv.holds room in
              let m : v.count ≡ w.count + 1 = held_more inv.numbers a inv.holds refl in
              by_room v
              (λ still.
              let q : r ≡ Some (holding (inv.numbers ++ a ∷ [] ++ b ∷ [])) = er ∙ rw p (push_held (inv.numbers ++ a ∷ []) b refl still) in
              let z : w.count + 2 ≡ (holding (inv.numbers ++ a ∷ [] ++ b ∷ [])).count
              = omega (arith, m, held_more {w = v} (inv.numbers ++ a ∷ []) b refl refl) in
              read_held mixed s r (holding (inv.numbers ++ a ∷ [] ++ b ∷ [])) (inv.numbers ++ a ∷ [] ++ b ∷ []) q refl
              (joined inv.numbers a (b ∷ []) _ (ap (λ (l : List ℕ). inv.numbers ++ l) (sym is) ∙ inv.so_far))
              (subst (λ (k : ℕ). Counted mixed s (Some k)) z c))
              (λ all.
              read_none mixed s r (er ∙ rw p (sym (push_full v b (omega arith))))
              (λ n k. c n k ∙ ne_eqb n (w.count + 2) (λ e. omega (arith, m))))

    module _ (e : h16 left ≡ false) where
      end_four : (r : Option Words) → mixed ≡ true → ipv4address left ≡ true → r ≡ with_pairs w (octets_of left) → GroupsRead mixed s r
      unfolding with_pairs
      end_four r m f er =
          let os = octets_of left in
          end_pair (get_or os 0 0 * 256 + get_or os 1 0) (get_or os 2 0 * 256 + get_or os 3 0)
          (in_four left f ∙ pairs_are os (four_sized left f).count) r
          (counts.count_four inv.counting h false (sym e) refl true m (sym f) refl) er

      end_none : (r : Option Words) → mixed && ipv4address left ≡ false → r ≡ None → GroupsRead mixed s r
      end_none r f er =
          read_none mixed s r er
          (by_bool mixed
          (λ m. counts.count_none inv.counting h false (sym e) refl false m (sym (rw m at f)) refl)
          (λ m. counts.count_plain inv.counting h false (sym e) refl m))

    pub groups_end : (r : Option Words) → r ≡ with_last mixed w left → GroupsRead mixed s r
    unfolding with_last
    groups_end r e =
        by_bool (h16 left) (λ g. end_group r g (e ∙ rw g))
        (λ g. by_bool (mixed && ipv4address left)
        (λ f. end_four g r (and_left mixed (ipv4address left) f) (and_right mixed (ipv4address left) f) (e ∙ rw (g, f)))
        (λ f. end_none g r f (e ∙ rw (g, f))))

pub ruleset last_laws = (last_group, last_plain, last_none, last_four)

pub ruleset group_laws = (groups_empty, groups_start, groups_bad, groups_full, groups_next, groups_end)
