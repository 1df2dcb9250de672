-- A book that stands for a list of streams answers as the list does, and each change of an entry is that of the list. Assumes nothing.
use Prim.Native.Nat.{ℕ, suc, ◌+◌, ◌-◌, ◌≤◌, ◌<◌}
use mathlib.Core.Path.{◌≡◌, sym, ap, ◌∙◌}
use mathlib.Core.List.{◌∷◌, map}
use mathlib.Core.Bool.{Bool, true, false, cond, not}
use native.Mathlib.Omega.{arith}
use lib.Dec.{eqb, ltb}
use lib.ListN.{length}
use borrow.Author.Tests.{ne_eqb, eqb-true, eqb-false, ltb-true, ltb-false, not-true}
use Rattle.text.proofs.Bools.{by_bool, clash, and_left, and_right}
use Rattle.streams.specs.Rule.{Value, Rule, Lawful, has_domain, is}
use Rattle.streams.specs.Streams.{Streams, bit, number_of, without, is_refused, of_clock, refused_in, clocks_in, moved}
use Rattle.streams.specs.Sums.{sum}
use Rattle.streams.specs.Book.{Book, is_free, tallied, Respects, StandsTo, Stands}
use Rattle.streams.specs.Private.Entries.{names, clock_sum, live}
use Rattle.streams.proofs.Lists.{bit_most, number_within, number_split, number_without, number_moved, length_without, length_map}
use Rattle.streams.proofs.Lists.{second, same_alike, same_turned}
use Rattle.streams.proofs.Clocks.{live_clocks}
use Rattle.streams.proofs.Sums.{over_zero, sum_same, sum_change, sum_zero, sum_one, sum_most, sum_less, sum_all, First}

-- an entry that is not free has streams
pub not_free : (b : Book) (i : ℕ) → is_free b i ≡ false → 0 < b.streams i
not_free b i e = over_zero (b.streams i) e

pub has_streams : (b : Book) (i : ℕ) → 0 < b.streams i → is_free b i ≡ false
has_streams b i h = ne_eqb (b.streams i) 0 (λ e. omega arith)

-- in b' the entry i has the value w and n streams, and all others are those of b
pub record Altered (b b' : Book) (i : ℕ) (w : Value) (n : ℕ) : Type 0 where
  pub value : b'.value i ≡ w
  pub streams : b'.streams i ≡ n
  pub other_value : (j : ℕ) → j < b.used → (j ≡ i → ⊥) → b'.value j ≡ b.value j
  pub other_streams : (j : ℕ) → j < b.used → (j ≡ i → ⊥) → b'.streams j ≡ b.streams j

-- one entry is altered
module _ (b b' : Book) (u : b'.used ≡ b.used) (i : ℕ) (h : i < b.used) (w : Value) (n : ℕ) (A : Altered b b' i w n) where
  pub tally_changed : (p : Value → Bool) → tallied b' p + cond (p (b.value i)) (b.streams i) 0 ≡ tallied b p + cond (p w) n 0
  tally_changed p =
      let k : sum b.used (λ j. cond (p (b'.value j)) (b'.streams j) 0) + cond (p (b.value i)) (b.streams i) 0
      ≡ tallied b p + cond (p (b'.value i)) (b'.streams i) 0 =
      sum_change b.used (λ j. cond (p (b.value j)) (b.streams j) 0) (λ j. cond (p (b'.value j)) (b'.streams j) 0) i h
      (λ j m x. ap (λ (y : Value). cond (p y) (b'.streams j) 0) (A.other_value j m x) ∙ ap (λ (y : ℕ). cond (p (b.value j)) y 0) (A.other_streams j m x)) in
      let r : cond (p (b'.value i)) (b'.streams i) 0 ≡ cond (p w) n 0 =
      ap (λ (y : Value). cond (p y) (b'.streams i) 0) A.value ∙ ap (λ (y : ℕ). cond (p w) y 0) A.streams in
      let q : tallied b' p ≡ sum b.used (λ j. cond (p (b'.value j)) (b'.streams j) 0) =
      ap (λ (y : ℕ). sum y (λ j. cond (p (b'.value j)) (b'.streams j) 0)) u in
      omega arith

module _ (R : Rule) (G : Lawful R) where
  pub respects_same : (x : Value) → Respects R (R.same x)
  respects_same x v w e = same_turned R G x v ∙ same_alike R G v w e x ∙ same_turned R G w x

  respects_domain : (d : ℕ) → Respects R (has_domain R d)
  respects_domain d v w e = ap (is d) (G.one_domain v w e)

  respects_accepted : Respects R R.accepted
  respects_accepted v w e = G.first v w e ∙ sym (second R G v w e)

  domain_accepted : (d : ℕ) (v : Value) → has_domain R d v ≡ true → R.accepted v ≡ true
  domain_accepted d v e = by_bool (R.accepted v) (λ t. t) (λ f. clash (cc (ap (is d) (G.no_domain v f), e)))

  -- the clock counts and the refused count are together the streams
  pub clock_sum_lem : (n most : ℕ) (b : Book) (l : Streams) → StandsTo n R most b l → clock_sum b + b.refused ≡ length l
  clock_sum_lem n most b l S =
      let t : tallied b R.accepted ≡ number_of R.accepted l = S.tallies R.accepted respects_accepted (λ v e. e) in
      let c : tallied b R.accepted ≡ clock_sum b =
      sum_same b.used b.streams (λ j. cond (R.accepted (b.value j)) (b.streams j) 0) (λ j h.
      by_bool (is_free b j)
      (λ f. let z = eqb-true (b.streams j) 0 f in by_bool (R.accepted (b.value j)) (λ a. simp a) (λ a. simp (a, z)))
      (λ f. simp (S.accepted j h f))) in
      omega (arith, S.refused, number_split R.accepted l)

  module _ (most : ℕ) (b : Book) (l : Streams) (S : Stands R most b l) where
    -- an entry names v's clock
    module _ (v : Value) (i : ℕ) (h : i < b.used) (e : names R b v i ≡ true) where
      pub named_streams : 0 < b.streams i
      named_streams = not_free b i (not-true (is_free b i) (and_left (not (is_free b i)) (R.same v (b.value i)) e))

      pub named_same : R.same v (b.value i) ≡ true
      named_same = and_right (not (is_free b i)) (R.same v (b.value i)) e

      named_others : (j : ℕ) → j < b.used → (j ≡ i → ⊥) → cond (R.same v (b.value j)) (b.streams j) 0 ≡ 0
      named_others j k x =
          by_bool (R.same v (b.value j))
          (λ t. simp t
          (by_bool (is_free b j)
          (λ f. eqb-true (b.streams j) 0 f)
          (λ f. absurd (x (S.apart j i k h f (has_streams b i named_streams) (G.on (b.value j) v (b.value i) (G.back v (b.value j) t) named_same))))))
          (λ t. simp t)

      -- then the entry's count is the clock's
      pub named_count : of_clock R v l ≡ b.streams i
      named_count =
          sym (S.tallies (R.same v) (respects_same v) (λ w t. second R G v w t))
          ∙ sum_one b.used (λ j. cond (R.same v (b.value j)) (b.streams j) 0) i h named_others
          ∙ simp named_same

    -- no entry names v's clock
    pub unnamed_count : (v : Value) → ((j : ℕ) → j < b.used → names R b v j ≡ false) → of_clock R v l ≡ 0
    unnamed_count v e =
        sym (S.tallies (R.same v) (respects_same v) (λ w t. second R G v w t))
        ∙ sum_zero b.used (λ j. cond (R.same v (b.value j)) (b.streams j) 0) (λ j h.
        by_bool (R.same v (b.value j))
        (λ t. simp t (by_bool (is_free b j) (λ f. eqb-true (b.streams j) 0 f) (λ f. clash (cc (simp (f, t) at (e j h))))))
        (λ t. simp t))

    -- one entry is altered
    module _ (b' : Book) (u : b'.used ≡ b.used) (i : ℕ) (h : i < b.used) (w : Value) (n : ℕ) (A : Altered b b' i w n) where
      -- an entry with streams afterwards is the altered one, or one with streams before
      altered_cases : {P : Type 0} (j : ℕ) → (j ≡ i → P) → ((j ≡ i → ⊥) → P) → P
      altered_cases j f g = by_bool (eqb j i) (λ t. f (eqb-true j i t)) (λ t. g (eqb-false j i t))

      altered_accepted : (0 < n → R.accepted w ≡ true) → (j : ℕ) → j < b'.used → is_free b' j ≡ false → R.accepted (b'.value j) ≡ true
      altered_accepted ok j m f =
          altered_cases j
          (λ e.
          let y : b'.streams j ≡ n = ap b'.streams e ∙ A.streams in
          rw e (ap R.accepted A.value ∙ ok (let z = not_free b' j f in omega arith)))
          (λ x.
          let was : is_free b j ≡ false = ap (λ (y : ℕ). eqb y 0) (sym (A.other_streams j (omega arith) x)) ∙ f in
          ap R.accepted (A.other_value j (omega arith) x) ∙ S.accepted j (omega arith) was)

      -- where the value there is then that of no other entry with streams
      altered_apart : ((j : ℕ) → j < b.used → (j ≡ i → ⊥) → is_free b j ≡ false → R.same w (b.value j) ≡ false)
          → (j k : ℕ) → j < b'.used → k < b'.used → is_free b' j ≡ false → is_free b' k ≡ false
          → R.same (b'.value j) (b'.value k) ≡ true → j ≡ k
      altered_apart new j k hj hk fj fk e =
          altered_cases j
          (λ ej.
          altered_cases k
          (λ ek. ej ∙ sym ek)
          (λ xk. clash (cc (
            ap (λ (y : Value). R.same y (b'.value k)) (ap b'.value ej ∙ A.value) ∙ ap (R.same w) (A.other_value k (omega arith) xk),
            new k (omega arith) xk (was_live k (omega arith) xk fk),
            e,
          ))))
          (λ xj.
          altered_cases k
          (λ ek. clash (cc (
            ap (λ (y : Value). R.same (b'.value j) y) (ap b'.value ek ∙ A.value)
                ∙ ap (λ (y : Value). R.same y w) (A.other_value j (omega arith) xj) ∙ same_turned R G (b.value j) w,
            new j (omega arith) xj (was_live j (omega arith) xj fj),
            e,
          )))
          (λ xk. S.apart j k (omega arith) (omega arith) (was_live j (omega arith) xj fj) (was_live k (omega arith) xk fk)
          (sym (ap (λ (y : Value). R.same y (b'.value k)) (A.other_value j (omega arith) xj)
          ∙ ap (R.same (b.value j)) (A.other_value k (omega arith) xk)) ∙ e)))
        where
          was_live : (j : ℕ) → j < b.used → (j ≡ i → ⊥) → is_free b' j ≡ false → is_free b j ≡ false
          was_live j m x f = ap (λ (y : ℕ). eqb y 0) (sym (A.other_streams j m x)) ∙ f

    -- where each entry with streams had some before, and its value
    module _ (b' : Book) (u : b'.used ≡ b.used)
        (was : (j : ℕ) → j < b.used → is_free b' j ≡ false → (is_free b j ≡ false) × (b'.value j ≡ b.value j)) where
      kept_accepted : (j : ℕ) → j < b'.used → is_free b' j ≡ false → R.accepted (b'.value j) ≡ true
      kept_accepted j h f = let k = was j (omega arith) f in ap R.accepted k.1 ∙ S.accepted j (omega arith) k.0

      kept_apart : (j k : ℕ) → j < b'.used → k < b'.used → is_free b' j ≡ false → is_free b' k ≡ false
          → R.same (b'.value j) (b'.value k) ≡ true → j ≡ k
      kept_apart j k hj hk fj fk e =
          let x = was j (omega arith) fj in
          let y = was k (omega arith) fk in
          S.apart j k (omega arith) (omega arith) x.0 y.0
          (sym (ap (λ (z : Value). R.same z (b'.value k)) x.1 ∙ ap (R.same (b.value j)) y.1) ∙ e)

    -- an entry that had streams has another number of them
    module _ (v : Value) (i : ℕ) (h : i < b.used) (e : names R b v i ≡ true) (b' : Book) (u : b'.used ≡ b.used) (n : ℕ)
        (A : Altered b b' i (b.value i) n) where
      was_there : (j : ℕ) → j < b.used → is_free b' j ≡ false → (is_free b j ≡ false) × (b'.value j ≡ b.value j)
      was_there j m f =
          by_bool (eqb j i)
          (λ t.
          let k : j ≡ i = eqb-true j i t in
          rw k (has_streams b i (named_streams v i h e), A.value))
          (λ t.
          let x = eqb-false j i t in
          (ap (λ (y : ℕ). eqb y 0) (sym (A.other_streams j m x)) ∙ f, A.other_value j m x))

    -- a stream of a clock that is there is counted
    pub counts_known : (v : Value) (i : ℕ) → i < b.used → names R b v i ≡ true
        → (b' : Book) → b'.used ≡ b.used → Altered b b' i (b.value i) (b.streams i + 1)
        → b'.refused ≡ b.refused → b'.total ≡ b.total + 1 → ((d : ℕ) → d < 128 → b'.domain d ≡ b.domain d + bit (has_domain R d v))
        → Stands R most b' (v ∷ l)
    unfolding number_of clocks_in
    counts_known v i h e b' u A er et ed =
        let s = named_streams v i h e in
        let q = named_same v i h e in
        let c = named_count v i h e in
        record {
          tallies = λ p resp ok.
              let k = tally_changed b b' u i h (b.value i) (b.streams i + 1) A p in
              let w = S.tallies p resp ok in
              by_bool (p v)
              (λ t. let y : p (b.value i) ≡ true = sym (resp v (b.value i) q) ∙ t in simp t (omega (arith, simp y at k)))
              (λ t. let y : p (b.value i) ≡ false = sym (resp v (b.value i) q) ∙ t in simp t (omega (arith, simp y at k)));
          refused = er ∙ S.refused ∙ simp (G.first v (b.value i) q) (omega arith);
          total = omega (arith, S.total);
          domains = λ d m. omega (arith, ed d m, S.domains d m);
          accepted = kept_accepted b' u (was_there v i h e b' u (b.streams i + 1) A);
          apart = kept_apart b' u (was_there v i h e b' u (b.streams i + 1) A);
          within = omega (arith, S.within);
        }

    -- a stream of a clock is withdrawn
    pub withdraws : (v : Value) (i : ℕ) → i < b.used → names R b v i ≡ true
        → (b' : Book) → b'.used ≡ b.used → Altered b b' i (b.value i) (b.streams i - 1)
        → b'.refused ≡ b.refused → b'.total ≡ b.total - 1 → ((d : ℕ) → d < 128 → b'.domain d ≡ b.domain d - bit (has_domain R d v))
        → Stands R most b' (without (R.same v) l)
    withdraws v i h e b' u A er et ed =
        let s = named_streams v i h e in
        let q = named_same v i h e in
        let c = named_count v i h e in
        let some : 0 < of_clock R v l = omega arith in
        record {
          tallies = λ p resp ok.
              let k = tally_changed b b' u i h (b.value i) (b.streams i - 1) A p in
              let w = S.tallies p resp ok in
              let x = number_without p (R.same v) (p v) (λ y f. sym (resp v y f)) l some in
              by_bool (p v)
              (λ t. let y : p (b.value i) ≡ true = sym (resp v (b.value i) q) ∙ t in omega (arith, simp y at k, simp t at x))
              (λ t. let y : p (b.value i) ≡ false = sym (resp v (b.value i) q) ∙ t in omega (arith, simp y at k, simp t at x));
          refused =
              let x = number_without (is_refused R) (R.same v) false (λ y f. simp (second R G v y f)) l some in
              omega (arith, S.refused);
          total = omega (arith, S.total, length_without (R.same v) l some);
          domains = λ d m.
              let x = number_without (has_domain R d) (R.same v) (has_domain R d v) (λ y f. sym (respects_domain d v y f)) l some in
              omega (arith, ed d m, S.domains d m);
          accepted = kept_accepted b' u (was_there v i h e b' u (b.streams i - 1) A);
          apart = kept_apart b' u (was_there v i h e b' u (b.streams i - 1) A);
          within = omega (arith, S.within);
        }

    -- no entry is altered
    module _ (b' : Book) (u : b'.used ≡ b.used) (same : (j : ℕ) → j < b.used → (b'.value j ≡ b.value j) × (b'.streams j ≡ b.streams j)) where
      all_same : (p : Value → Bool) → tallied b' p ≡ tallied b p
      all_same p =
          ap (λ (y : ℕ). sum y (λ j. cond (p (b'.value j)) (b'.streams j) 0)) u
          ∙ sum_same b.used (λ j. cond (p (b.value j)) (b.streams j) 0) (λ j. cond (p (b'.value j)) (b'.streams j) 0)
          (λ j m. ap (λ (y : Value). cond (p y) (b'.streams j) 0) (same j m).0 ∙ ap (λ (y : ℕ). cond (p (b.value j)) y 0) (same j m).1)

      was_same : (j : ℕ) → j < b.used → is_free b' j ≡ false → (is_free b j ≡ false) × (b'.value j ≡ b.value j)
      was_same j m f = (ap (λ (y : ℕ). eqb y 0) (sym (same j m).1) ∙ f, (same j m).0)

    -- a refused value is counted
    pub counts_refused : (v : Value) → R.accepted v ≡ false
        → (b' : Book) → b'.used ≡ b.used → ((j : ℕ) → j < b.used → (b'.value j ≡ b.value j) × (b'.streams j ≡ b.streams j))
        → b'.refused ≡ b.refused + 1 → b'.total ≡ b.total + 1 → ((d : ℕ) → d < 128 → b'.domain d ≡ b.domain d)
        → Stands R most b' (v ∷ l)
    unfolding number_of clocks_in
    counts_refused v f b' u same er et ed =
        record {
          tallies = λ p resp ok.
              let x : p v ≡ false = by_bool (p v) (λ t. clash (cc (ok v t, f))) (λ t. t) in
              simp x (omega (arith, all_same b' u same p, S.tallies p resp ok));
          refused = simp f (omega (arith, S.refused));
          total = omega (arith, S.total);
          domains = λ d m. let x : has_domain R d v ≡ false = ap (is d) (G.no_domain v f) in simp x (omega (arith, ed d m, S.domains d m));
          accepted = kept_accepted b' u (was_same b' u same);
          apart = kept_apart b' u (was_same b' u same);
          within = omega (arith, S.within);
        }

    -- a refused value is withdrawn
    pub withdraws_refused : 0 < b.refused
        → (b' : Book) → b'.used ≡ b.used → ((j : ℕ) → j < b.used → (b'.value j ≡ b.value j) × (b'.streams j ≡ b.streams j))
        → b'.refused ≡ b.refused - 1 → b'.total ≡ b.total - 1 → ((d : ℕ) → d < 128 → b'.domain d ≡ b.domain d)
        → Stands R most b' (without (is_refused R) l)
    withdraws_refused h b' u same er et ed =
        let some : 0 < refused_in R l = omega (arith, S.refused) in
        record {
          tallies = λ p resp ok.
              let x = number_without p (is_refused R) false (λ y e. by_bool (p y) (λ t. clash (cc (simp (ok y t) at e))) (λ t. t)) l some in
              omega (arith, all_same b' u same p, S.tallies p resp ok);
          refused = let x = number_without (is_refused R) (is_refused R) true (λ y e. e) l some in omega (arith, S.refused);
          total = omega (arith, S.total, length_without (is_refused R) l some);
          domains = λ d m.
              let x = number_without (has_domain R d) (is_refused R) false (λ y e. ap (is d) (G.no_domain y (not-true (R.accepted y) e))) l some in
              omega (arith, ed d m, S.domains d m);
          accepted = kept_accepted b' u (was_same b' u same);
          apart = kept_apart b' u (was_same b' u same);
          within = omega (arith, S.within);
        }

    -- the first stream of a clock is counted
    module _ (v : Value) (a : R.accepted v ≡ true) (unnamed : (j : ℕ) → j < b.used → names R b v j ≡ false) where
      new_apart : (j : ℕ) → j < b.used → is_free b j ≡ false → R.same v (b.value j) ≡ false
      new_apart j h f = by_bool (R.same v (b.value j)) (λ t. clash (cc (simp (f, t) at (unnamed j h)))) (λ t. t)

      -- in an entry that was free
      pub counts_new : (i : ℕ) → i < b.used → is_free b i ≡ true
          → (b' : Book) → b'.used ≡ b.used → Altered b b' i v 1
          → b'.refused ≡ b.refused → b'.total ≡ b.total + 1 → ((d : ℕ) → d < 128 → b'.domain d ≡ b.domain d + bit (has_domain R d v))
          → Stands R most b' (v ∷ l)
      unfolding number_of clocks_in
      counts_new i h free b' u A er et ed =
          let z = eqb-true (b.streams i) 0 free in
          record {
            tallies = λ p resp ok.
                let k = tally_changed b b' u i h v 1 A p in
                let w = S.tallies p resp ok in
                let none : cond (p (b.value i)) (b.streams i) 0 ≡ 0 = by_bool (p (b.value i)) (λ t. simp t z) (λ t. simp t) in
                by_bool (p v) (λ t. simp t (omega (arith, simp t at k))) (λ t. simp t (omega (arith, simp t at k)));
            refused = er ∙ S.refused ∙ simp a (omega arith);
            total = omega (arith, S.total);
            domains = λ d m. omega (arith, ed d m, S.domains d m);
            accepted = altered_accepted b' u i h v 1 A (λ q. a);
            apart = altered_apart b' u i h v 1 A (λ j m x f. new_apart j m f);
            within = omega (arith, S.within);
          }

      -- or in one behind the others
      pub counts_more : b.used < most
          → (b' : Book) → b'.used ≡ suc b.used → Altered b b' b.used v 1
          → b'.refused ≡ b.refused → b'.total ≡ b.total + 1 → ((d : ℕ) → d < 128 → b'.domain d ≡ b.domain d + bit (has_domain R d v))
          → Stands R most b' (v ∷ l)
      unfolding number_of clocks_in sum
      counts_more room b' u A er et ed =
          record {
            tallies = λ p resp ok.
                let w = S.tallies p resp ok in
                let x : sum b.used (λ j. cond (p (b'.value j)) (b'.streams j) 0) ≡ tallied b p =
                sum_same b.used (λ j. cond (p (b.value j)) (b.streams j) 0) (λ j. cond (p (b'.value j)) (b'.streams j) 0)
                (λ j m.
                ap (λ (y : Value). cond (p y) (b'.streams j) 0) (A.other_value j m (λ e. omega arith))
                ∙ ap (λ (y : ℕ). cond (p (b.value j)) y 0) (A.other_streams j m (λ e. omega arith))) in
                let r : cond (p (b'.value b.used)) (b'.streams b.used) 0 ≡ bit (p v) =
                ap (λ (y : Value). cond (p y) (b'.streams b.used) 0) A.value ∙ ap (λ (y : ℕ). cond (p v) y 0) A.streams
                ∙ by_bool (p v) (λ t. simp t) (λ t. simp t) in
                let q : tallied b' p ≡ sum (suc b.used) (λ j. cond (p (b'.value j)) (b'.streams j) 0) =
                ap (λ (y : ℕ). sum y (λ j. cond (p (b'.value j)) (b'.streams j) 0)) u in
                omega arith;
            refused = er ∙ S.refused ∙ simp a (omega arith);
            total = omega (arith, S.total);
            domains = λ d m. omega (arith, ed d m, S.domains d m);
            accepted = λ j m f.
                last_or j m
                (λ e. ap R.accepted (ap b'.value e ∙ A.value) ∙ a)
                (λ k. ap R.accepted (A.other_value j k (λ e. omega arith)) ∙ S.accepted j k (was j k f));
            apart = λ j k hj hk fj fk e.
                last_or j hj
                (λ ej.
                last_or k hk (λ ek. ej ∙ sym ek)
                (λ mk. clash (cc (
                  ap (λ (y : Value). R.same y (b'.value k)) (ap b'.value ej ∙ A.value) ∙ ap (R.same v) (A.other_value k mk (λ x. omega arith)),
                  new_apart k mk (was k mk fk),
                  e,
                ))))
                (λ mj.
                last_or k hk
                (λ ek. clash (cc (
                  ap (λ (y : Value). R.same (b'.value j) y) (ap b'.value ek ∙ A.value)
                      ∙ ap (λ (y : Value). R.same y v) (A.other_value j mj (λ x. omega arith)) ∙ same_turned R G (b.value j) v,
                  new_apart j mj (was j mj fj),
                  e,
                )))
                (λ mk. S.apart j k mj mk (was j mj fj) (was k mk fk)
                (sym (ap (λ (y : Value). R.same y (b'.value k)) (A.other_value j mj (λ x. omega arith))
                ∙ ap (R.same (b.value j)) (A.other_value k mk (λ x. omega arith))) ∙ e)));
            within = omega arith;
          }
        where
          last_or : {P : Type 0} (j : ℕ) → j < b'.used → (j ≡ b.used → P) → (j < b.used → P) → P
          last_or j m f g = by_bool (ltb j b.used) (λ t. g (ltb-true j b.used t)) (λ t. f (let k = ltb-false j b.used t in omega arith))

          was : (j : ℕ) → j < b.used → is_free b' j ≡ false → is_free b j ≡ false
          was j m f = ap (λ (y : ℕ). eqb y 0) (sym (A.other_streams j m (λ e. omega arith))) ∙ f

    -- as many entries with streams as clocks with streams
    pub standing : live b ≡ clocks_in R l
    standing = live_clocks R G b S.apart l (λ v. S.tallies (R.same v) (respects_same v) (λ w t. second R G v w t)) S.accepted

    -- whether there is room for a clock more
    module _ (i : ℕ) (F : First (is_free b) b.used i) where
      live_most : (j : ℕ) → j < b.used → bit (not (is_free b j)) ≤ 1
      live_most j h = bit_most (not (is_free b j))

      pub room_yes : i < most → clocks_in R l < most
      room_yes h =
          by_bool (ltb i b.used)
          (λ t.
          let k = ltb-true i b.used t in
          omega (arith, standing, S.within, sum_less b.used (λ j. bit (not (is_free b j))) i k (simp (F.holds k)) live_most))
          (λ t. let k = ltb-false i b.used t in omega (arith, F.most, standing, sum_most b.used (λ j. bit (not (is_free b j))) live_most))

      pub room_no : most ≤ i → most ≤ clocks_in R l
      room_no h =
          let all = sum_all b.used (λ j. bit (not (is_free b j))) (λ j m. simp (F.none j (omega (arith, S.within)))) in
          omega (arith, F.most, S.within, standing, all)

    -- a clock is joined into another: its streams are added to the other's entry, and then its own is freed
    module _ (v w : Value) (apart : R.same v w ≡ false) (i j : ℕ) (hi : i < b.used) (hj : j < b.used) (ei : names R b v i ≡ true) (ej : names R b w j ≡ true)
        (b₁ b₂ : Book) (u₁ : b₁.used ≡ b.used) (u₂ : b₂.used ≡ b₁.used)
        (A₁ : Altered b b₁ j (b.value j) (b.streams j + b.streams i)) (A₂ : Altered b₁ b₂ i (b₁.value i) 0) where
      two : i ≡ j → ⊥
      two e =
          let q : R.same w (b.value i) ≡ true = ap (λ (k : ℕ). R.same w (b.value k)) e ∙ named_same w j hj ej in
          clash (cc (apart, G.on v (b.value i) w (named_same v i hi ei) (G.back w (b.value i) q)))

      value_i : b₁.value i ≡ b.value i
      value_i = A₁.other_value i hi two

      streams_i : b₁.streams i ≡ b.streams i
      streams_i = A₁.other_streams i hi two

      was_joined : (k : ℕ) → k < b.used → is_free b₂ k ≡ false → (is_free b k ≡ false) × (b₂.value k ≡ b.value k)
      was_joined k m f =
          by_bool (eqb k i)
          (λ t. let e = eqb-true k i t in clash (let z = not_free b₂ k f in let y : b₂.streams k ≡ 0 = ap b₂.streams e ∙ A₂.streams in omega arith))
          (λ t.
          let x = eqb-false k i t in
          by_bool (eqb k j)
          (λ s.
          let e = eqb-true k j s in
          (has_streams b k (rw e (named_streams w j hj ej)), A₂.other_value k (omega arith) x ∙ rw e A₁.value))
          (λ s.
          let y = eqb-false k j s in (
            ap (λ (z : ℕ). eqb z 0) (sym (A₂.other_streams k (omega arith) x ∙ A₁.other_streams k m y)) ∙ f,
            A₂.other_value k (omega arith) x ∙ A₁.other_value k m y,
          )))

      pub joins : b₂.refused ≡ b.refused → b₂.total ≡ b.total
          → ((d : ℕ) → d < 128 → b₂.domain d ≡ b.domain d - cond (has_domain R d v) (b.streams i) 0 + cond (has_domain R d w) (b.streams i) 0)
          → Stands R most b₂ (map (moved R v w) l)
      joins er et ed =
          let si = named_streams v i hi ei in
          let sj = named_streams w j hj ej in
          let qi = named_same v i hi ei in
          let qj = named_same w j hj ej in
          let ci = named_count v i hi ei in
          let cj = named_count w j hj ej in
          let av = G.first v (b.value i) qi in
          let aw = G.first w (b.value j) qj in
          record {
            tallies = λ p resp ok.
                let k₁ = tally_changed b b₁ u₁ j hj (b.value j) (b.streams j + b.streams i) A₁ p in
                let k₂ = tally_changed b₁ b₂ u₂ i (omega arith) (b₁.value i) 0 A₂ p in
                let s = S.tallies p resp ok in
                let n = number_moved R G p resp v w l in
                let pi : p (b₁.value i) ≡ p v = ap p value_i ∙ sym (resp v (b.value i) qi) in
                let pj : p (b.value j) ≡ p w = sym (resp w (b.value j) qj) in
                by_bool (p v)
                (λ x. by_bool (p w)
                (λ y. omega (arith, streams_i, simp (pj, y) at k₁, simp (pi, x) at k₂, simp (x, y) at n))
                (λ y. omega (arith, streams_i, simp (pj, y) at k₁, simp (pi, x) at k₂, simp (x, y) at n)))
                (λ x. by_bool (p w)
                (λ y. omega (arith, streams_i, simp (pj, y) at k₁, simp (pi, x) at k₂, simp (x, y) at n))
                (λ y. omega (arith, streams_i, simp (pj, y) at k₁, simp (pi, x) at k₂, simp (x, y) at n)));
            refused =
                let n = number_moved R G (is_refused R) (λ x y e. ap not (respects_accepted x y e)) v w l in
                omega (arith, S.refused, simp (av, aw) at n);
            total = et ∙ S.total ∙ sym (length_map (moved R v w) l);
            domains = λ d m.
                let n = number_moved R G (has_domain R d) (respects_domain d) v w l in
                by_bool (has_domain R d v)
                (λ x.
                let c = number_within (has_domain R d) (R.same v) (λ y e. sym (respects_domain d v y e) ∙ x) l in
                by_bool (has_domain R d w)
                (λ y. omega (arith, S.domains d m, simp (x, y) at (ed d m), simp (x, y) at n))
                (λ y. omega (arith, S.domains d m, simp (x, y) at (ed d m), simp (x, y) at n)))
                (λ x.
                by_bool (has_domain R d w)
                (λ y. omega (arith, S.domains d m, simp (x, y) at (ed d m), simp (x, y) at n))
                (λ y. omega (arith, S.domains d m, simp (x, y) at (ed d m), simp (x, y) at n)));
            accepted = kept_accepted b₂ (u₂ ∙ u₁) was_joined;
            apart = kept_apart b₂ (u₂ ∙ u₁) was_joined;
            within = omega (arith, S.within);
          }
