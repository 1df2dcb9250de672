-- A book that stands for a list under a rule stands for it under one that tells fewer clocks apart, but for entries that are one clock then. These are
-- joined one after another, and every count stays. Assumes nothing.
use Prim.Native.Nat.{ℕ, suc, ◌+◌, ◌≤◌, ◌<◌}
use mathlib.Core.Path.{◌≡◌, refl, sym, ap, ◌∙◌}
use mathlib.Core.Bool.{Bool, true, false, cond, not}
use native.Mathlib.Omega.{arith}
use lib.Dec.{eqb}
use lib.ListN.{length}
use borrow.Author.Tests.{eq-eqb, ne_eqb, eqb-true, eqb-false}
use Rattle.text.proofs.Bools.{by_bool, clash}
use Rattle.streams.specs.Rule.{Value, Rule, Lawful, Narrower, has_domain, is}
use Rattle.streams.specs.Streams.{Streams, number_of, is_refused}
use Rattle.streams.specs.Sums.{sum}
use Rattle.streams.specs.Book.{Book, is_free, tallied, Respects, StandsTo}
use Rattle.streams.proofs.Lists.{number_most, number_alike, second, same_turned}
use Rattle.streams.proofs.Sums.{below, sum_same, sum_change, sum_term}
use Rattle.streams.proofs.Book.{Altered, tally_changed, not_free, respects_same}

pub widened : (Q R : Rule) → Narrower Q R → (n most : ℕ) (b : Book) (l : Streams) → StandsTo n Q most b l → StandsTo 0 R most b l
widened Q R N n most b l S =
    record {
      tallies = λ p resp ok. S.tallies p (λ v w e. resp v w (N.same v w e)) (λ v e. N.accepted v ∙ ok v e);
      refused = S.refused ∙ number_alike (is_refused Q) (is_refused R) (λ v. ap not (N.accepted v)) l;
      total = S.total;
      domains = λ d h. S.domains d h ∙ number_alike (has_domain Q d) (has_domain R d) (λ v. ap (is d) (N.domain v)) l;
      accepted = λ i h f. sym (N.accepted (b.value i)) ∙ S.accepted i h f;
      apart = λ i j h. absurd (omega arith);
      within = S.within;
    }

-- what b' says in place of b: the same counts, the same values, and streams only where there were some
pub record Alike (R : Rule) (b b' : Book) : Type 0 where
  pub used : b'.used ≡ b.used
  pub refused : b'.refused ≡ b.refused
  pub total : b'.total ≡ b.total
  pub domains : (d : ℕ) → d < 128 → b'.domain d ≡ b.domain d
  pub values : (k : ℕ) → k < b.used → b'.value k ≡ b.value k
  pub live : (k : ℕ) → k < b.used → is_free b' k ≡ false → is_free b k ≡ false
  pub tallies : (p : Value → Bool) → Respects R p → tallied b' p ≡ tallied b p

module _ (n : ℕ) (R : Rule) (most : ℕ) (b : Book) (l : Streams) (S : StandsTo n R most b l) where
  pub carried : n ≤ b.used → (b' : Book) → Alike R b b' → StandsTo n R most b' l
  carried inside b' A =
      record {
        tallies = λ p resp ok. A.tallies p resp ∙ S.tallies p resp ok;
        refused = A.refused ∙ S.refused;
        total = A.total ∙ S.total;
        domains = λ d h. A.domains d h ∙ S.domains d h;
        accepted = λ i h f.
            let g : i < b.used = omega (arith, A.used) in
            ap R.accepted (A.values i g) ∙ S.accepted i g (A.live i g f);
        apart = λ i j hi hj fi fj e.
            let gi : i < b.used = omega arith in
            let gj : j < b.used = omega arith in
            S.apart i j hi hj (A.live i gi fi) (A.live j gj fj)
            (sym (ap (λ (v : Value). R.same v (b'.value j)) (A.values i gi) ∙ ap (R.same (b.value i)) (A.values j gj)) ∙ e);
        within = omega (arith, S.within, A.used);
      }

  -- one entry further, where its clock is that of none before
  pub further : Lawful R → ((j : ℕ) → j < n → is_free b n ≡ false → is_free b j ≡ false → R.same (b.value n) (b.value j) ≡ false) → StandsTo (suc n) R most b l
  further G new =
      record {
        tallies = S.tallies;
        refused = S.refused;
        total = S.total;
        domains = S.domains;
        accepted = S.accepted;
        apart = λ i j hi hj fi fj e.
            by_bool (eqb i n)
            (λ t.
            let p = eqb-true i n t in
            by_bool (eqb j n)
            (λ s. p ∙ sym (eqb-true j n s))
            (λ s. clash (cc (rw p at e, new j (below j n (omega arith) s) (rw p at fi) fj))))
            (λ t.
            by_bool (eqb j n)
            (λ s.
            let p = eqb-true j n s in
            clash (cc (rw p at e, same_turned R G (b.value i) (b.value n), new i (below i n (omega arith) t) (rw p at fj) fi)))
            (λ s. S.apart i j (below i n (omega arith) t) (below j n (omega arith) s) fi fj e));
        within = S.within;
      }

  -- two entries with one clock have together no more streams than there are
  pub two_fit : Lawful R → (i j : ℕ) → i < b.used → j < b.used → (i ≡ j → ⊥) → R.accepted (b.value i) ≡ true → R.same (b.value i) (b.value j) ≡ true
      → b.streams j + b.streams i ≤ length l
  two_fit G i j hi hj x a e =
      let v = b.value i in
      let f : ℕ → ℕ = λ k. cond (R.same v (b.value k)) (b.streams k) 0 in
      let g : ℕ → ℕ = λ k. cond (eqb k i) 0 (f k) in
      let changed : sum b.used g + f i ≡ sum b.used f + g i = sum_change b.used f g i hi (λ k h y. simp (ne_eqb k i y)) in
      let gi : g i ≡ 0 = simp (eq-eqb i i refl) in
      let gj : g j ≡ b.streams j = simp (ne_eqb j i (λ y. x (sym y)), e) in
      let fi : f i ≡ b.streams i = simp (G.to_self v a) in
      let term = sum_term b.used g j hj in
      let all : sum b.used f ≡ number_of (R.same v) l = S.tallies (R.same v) (respects_same R G v) (λ w t. second R G v w t) in
      omega (arith, changed, gi, gj, fi, term, all, number_most (R.same v) l)

-- each entry says what it said
pub said_again : (R : Rule) (b b' : Book) → b'.used ≡ b.used → b'.refused ≡ b.refused → b'.total ≡ b.total
    → ((d : ℕ) → d < 128 → b'.domain d ≡ b.domain d) → ((k : ℕ) → b'.value k ≡ b.value k) → ((k : ℕ) → b'.streams k ≡ b.streams k) → Alike R b b'
said_again R b b' u er et ed ev es =
    record {
      used = u;
      refused = er;
      total = et;
      domains = ed;
      values = λ k h. ev k;
      live = λ k h f. ap (λ (y : ℕ). eqb y 0) (sym (es k)) ∙ f;
      tallies = λ p resp.
          ap (λ (n : ℕ). sum n (λ j. cond (p (b'.value j)) (b'.streams j) 0)) u
          ∙ sum_same b.used (λ j. cond (p (b.value j)) (b.streams j) 0) (λ j. cond (p (b'.value j)) (b'.streams j) 0)
          (λ j h. ap (λ (v : Value). cond (p v) (b'.streams j) 0) (ev j) ∙ ap (λ (n : ℕ). cond (p (b.value j)) n 0) (es j));
    }

-- two entries of one clock are joined: the one gets the streams of the other, which is free then
pub joined_alike : (R : Rule) (b b₁ b₂ : Book) (i j : ℕ) → i < b.used → j < b.used → (i ≡ j → ⊥) → is_free b j ≡ false
    → R.same (b.value i) (b.value j) ≡ true → b₁.used ≡ b.used → b₂.used ≡ b₁.used
    → Altered b b₁ j (b.value j) (b.streams j + b.streams i) → Altered b₁ b₂ i (b₁.value i) 0
    → b₂.refused ≡ b.refused → b₂.total ≡ b.total → ((d : ℕ) → d < 128 → b₂.domain d ≡ b.domain d) → Alike R b b₂
joined_alike R b b₁ b₂ i j hi hj x fj e u₁ u₂ A₁ A₂ er et ed =
    record {
      used = u₂ ∙ u₁;
      refused = er;
      total = et;
      domains = ed;
      values = λ k h. second_value k h ∙ first_value k h;
      live = λ k h f.
          by_bool (eqb k i)
          (λ t.
          let q = eqb-true k i t in
          clash (let z = not_free b₂ k f in let y : b₂.streams k ≡ 0 = ap b₂.streams q ∙ A₂.streams in omega arith))
          (λ t.
          let y = eqb-false k i t in
          by_bool (eqb k j)
          (λ s. let q = eqb-true k j s in rw q fj)
          (λ s. ap (λ (g : ℕ). eqb g 0) (sym (A₂.other_streams k (omega arith) y ∙ A₁.other_streams k h (eqb-false k j s))) ∙ f));
      tallies = λ p resp.
          let k₁ = tally_changed b b₁ u₁ j hj (b.value j) (b.streams j + b.streams i) A₁ p in
          let k₂ = tally_changed b₁ b₂ u₂ i (omega arith) (b₁.value i) 0 A₂ p in
          let si = A₁.other_streams i hi x in
          let pi : p (b₁.value i) ≡ p (b.value j) = ap p (A₁.other_value i hi x) ∙ resp (b.value i) (b.value j) e in
          by_bool (p (b.value j))
          (λ y. omega (arith, si, simp y at k₁, simp (pi, y) at k₂))
          (λ y. omega (arith, si, simp y at k₁, simp (pi, y) at k₂));
    }
  where
    first_value : (k : ℕ) → k < b.used → b₁.value k ≡ b.value k
    first_value k h =
        by_bool (eqb k j)
        (λ t. let q = eqb-true k j t in rw q A₁.value)
        (λ t. A₁.other_value k h (eqb-false k j t))

    second_value : (k : ℕ) → k < b.used → b₂.value k ≡ b₁.value k
    second_value k h =
        by_bool (eqb k i)
        (λ t. let q = eqb-true k i t in rw q A₂.value)
        (λ t. A₂.other_value k (omega arith) (eqb-false k i t))
