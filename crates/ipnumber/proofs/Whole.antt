-- The groups of an IPv6address, and the number of an address. Assumes nothing.
use Prim.Native.Nat.{ℕ, ◌+◌, ◌-◌, ◌≤◌, ◌<◌}
use mathlib.Core.Path.{◌≡◌, sym, ap, subst, ◌∙◌}
use mathlib.Core.Bool.{Bool, true, false}
use mathlib.Core.List.{List, append-nil}
use native.Mathlib.Omega.{arith}
use lib.Dec.{leb}
use lib.ListN.{length, take, get_or}
use lib.Seq.{paste}
use borrow.Author.Tests.{le-leb, lt-leb, lt-ltb, le-ltb}
use Rattle.std.specs.Prelude.{Option, Some, None}
use Rattle.text.specs.Find.{before_pair}
use Rattle.text.proofs.Bools.{by_bool, clash}
use Rattle.text.proofs.Left.{rest, rest_is}
use Rattle.ipaddr.specs.Address.{ipv6address, ip_address}
use Rattle.ipaddr.specs.Number.{side_groups, filled, groups_of, ip_address_of}
use Rattle.ipaddr.specs.Private.Groups.{Counted}
use Rattle.ipaddr.proofs.Six as six
use Rattle.ipaddr.proofs.Fits.{empty_none, first_high, first_bracket}
use Rattle.ipaddr.proofs.Number.{none_is_no_address}
use Rattle.ipnumber.specs.declared.Words.{Words}
use Rattle.ipnumber.specs.declared.Family.TheVariants.{V4, V6}
use Rattle.ipnumber.specs.Told.{told, ip_number}
use Rattle.ipnumber.specs.Private.Holding.{holding, octets_read, wide, GroupsRead, six_read}
use Rattle.ipnumber.proofs.Held.{held_count, fill_held}
use Rattle.ipnumber.proofs.Octets.{is_four, not_four}

-- `read_six`
six_no : (s : List ℕ) → false ≡ ipv6address s → None ≡ six_read s
unfolding six_read
six_no s e = sym (rw (← e))

six_yes : (s gs : List ℕ) → true ≡ ipv6address s → gs ≡ groups_of s → Some gs ≡ six_read s
unfolding six_read
six_yes s gs e f = sym (rw (← e, f))

eight_held : (w : Words) (l : List ℕ) → w ≡ holding l → length l ≡ 8 → w.words ≡ l
unfolding holding
eight_held w l e h = let z : 8 - length l ≡ 0 = omega arith in rw (e, z) (append-nil l)

-- how many were read, where any number was
count_in : Option Words → Option ℕ
count_in (Some w) = Some w.count
count_in None = None

counted : (mixed : Bool) (s : List ℕ) (r : Option Words) → GroupsRead mixed s r → Counted mixed s (count_in r)
unfolding count_in
counted mixed s (Some w) read = read.counted
counted mixed s None read = read

held : (mixed : Bool) (s : List ℕ) (r : Option Words) → GroupsRead mixed s r → (w : Words) → r ≡ Some w → w ≡ holding (side_groups s)
held mixed s r read w e = (subst (GroupsRead mixed s) e read).held

count_none : (r : Option Words) → r ≡ None → count_in r ≡ None
unfolding count_in
count_none r e = rw e

count_some : (r : Option Words) (w : Words) → r ≡ Some w → count_in r ≡ Some w.count
unfolding count_in
count_some r w e = rw e

module _ (s : List ℕ) (g : ℕ) (eg : g ≡ before_pair 58 58 s) where
  module _ (h : length s ≤ g) (r : Option Words) (read : GroupsRead true s r) where
    pub six_none : r ≡ None → None ≡ six_read s
    six_none e =
        six_no s (six.six_other s g eg h (count_in r) (counted true s r read) (λ k. let n = count_none r e in clash (cc)))

    module _ (w : Words) (e : r ≡ Some w) where
      pub six_other : (w.count ≡ 8 → ⊥) → None ≡ six_read s
      six_other k =
          six_no s
          (six.six_other s g eg h (count_in r) (counted true s r read)
          (λ f. k (let n = count_some r w e in cc)))

      pub six_eight : w.count ≡ 8 → Some w.words ≡ six_read s
      unfolding groups_of
      six_eight k =
          let is = held true s r read w e in
          six_yes s w.words
          (six.six_eight s g eg h (count_in r) (counted true s r read) (count_some r w e ∙ ap Some k))
          (eight_held w (side_groups s) is (sym (held_count (side_groups s) is) ∙ k)
          ∙ sym (rw (le-ltb (before_pair 58 58 s) (length s) (omega arith))))

  module _ (h : g < length s) where
    pub six_left : (x : Option Words) → GroupsRead false (take g s) x → x ≡ None → None ≡ six_read s
    six_left x read e = six_no s (six.six_left s g eg h (count_in x) (counted false (take g s) x read) (count_none x e))

    pub six_right : (y : Option Words) → GroupsRead true (rest (g + 2) s) y → y ≡ None → None ≡ six_read s
    six_right y read e = six_no s (six.six_right s g eg h (count_in y) (counted true (rest (g + 2) s) y read) (count_none y e))

  module _ (h : g < length s) (x : Option Words) (rx : GroupsRead false (take g s) x) (l : Words) (ex : x ≡ Some l)
      (y : Option Words) (ry : GroupsRead true (rest (g + 2) s) y) (r : Words) (ey : y ≡ Some r) where
    pub six_many : 7 < r.count → None ≡ six_read s
    six_many k =
        six_no s
        (sym (lt-leb r.count 7 k)
        ∙ six.six_many s g eg h (count_in x) (count_in y) l.count r.count (counted false (take g s) x rx) (count_some x l ex)
        (counted true (rest (g + 2) s) y ry) (count_some y r ey) k)

    few : r.count ≤ 7 → leb l.count (7 - r.count) ≡ ipv6address s
    few k =
        six.six_few s g eg h (count_in x) (count_in y) l.count r.count (counted false (take g s) x rx) (count_some x l ex)
        (counted true (rest (g + 2) s) y ry) (count_some y r ey) k

    pub six_over : r.count ≤ 7 → 7 - r.count < l.count → None ≡ six_read s
    six_over k over = six_no s (sym (lt-leb l.count (7 - r.count) over) ∙ few k)

    pub six_both : r.count ≤ 7 → l.count ≤ 7 - r.count → (ws : List ℕ) → ws ≡ paste l.words (8 - r.count) r.words r.count → Some ws ≡ six_read s
    unfolding groups_of
    six_both k under ws e =
        let a = held false (take g s) x rx l ex in
        let b = held true (rest (g + 2) s) y ry r ey in
        let n = held_count (side_groups (take g s)) a in
        let m = held_count (side_groups (rest (g + 2) s)) b in
        let joins : ws ≡ filled (side_groups (take g s)) (side_groups (rest (g + 2) s))
        = e ∙ rw (m, a, b) (fill_held (side_groups (take g s)) (side_groups (rest (g + 2) s)) (omega arith)) in
        six_yes s ws (sym (le-leb l.count (7 - r.count) under) ∙ few k)
        (joins ∙ rw (rest_is (g + 2) s, eg, lt-ltb (before_pair 58 58 s) (length s) (omega arith)))

pub ruleset six_laws = (six.six_whole, six_none, six_other, six_eight, six_left, six_right, six_many, six_over, six_both)

-- `ip_number`
no_number : (s : List ℕ) → false ≡ ip_address s → None ≡ told (ip_address_of s)
unfolding told
no_number s e = rw ((none_is_no_address s).1 (sym e))

pub number_empty : (s : List ℕ) → length s ≡ 0 → None ≡ told (ip_address_of s)
number_empty s h = no_number s (empty_none s h)

module _ (s : List ℕ) (h : length s ≡ 0 → ⊥) where
  pub number_high : 102 < get_or s 0 0 → None ≡ told (ip_address_of s)
  number_high k = no_number s (first_high s h k)

  pub number_bracket : get_or s 0 0 ≡ 91 → None ≡ told (ip_address_of s)
  number_bracket k = no_number s (first_bracket s h k)

module _ (s : List ℕ) (o : Option (List ℕ)) (eo : o ≡ octets_read s) where
  pub number_four : (os : List ℕ) → o ≡ Some os → (ws : List ℕ) → ws ≡ wide os → Some (ip_number V4 ws) ≡ told (ip_address_of s)
  unfolding ip_address_of told wide
  number_four os e ws ew = let t = is_four s o eo os e in rw (ew, t.0, t.1)

  module _ (e : o ≡ None) (g : Option (List ℕ)) (eg : g ≡ six_read s) where
    pub number_six : (gs : List ℕ) → g ≡ Some gs → Some (ip_number V6 gs) ≡ told (ip_address_of s)
    unfolding ip_address_of told six_read
    number_six gs f =
        by_bool (ipv6address s)
        (λ k. let m : g ≡ Some (groups_of s) = eg ∙ rw k in let n : gs ≡ groups_of s = cc in rw (not_four s o eo e, k, n))
        (λ k. let m : g ≡ None = eg ∙ rw k in clash (cc))

    pub number_none : g ≡ None → None ≡ told (ip_address_of s)
    unfolding ip_address_of told six_read
    number_none f =
        by_bool (ipv6address s)
        (λ k. let m : g ≡ Some (groups_of s) = eg ∙ rw k in clash (cc)) (λ k. rw (not_four s o eo e, k))

pub ruleset number_laws = (number_empty, number_high, number_bracket, number_four, number_six, number_none)
