-- Laws of cuts: how far a search reaches, what stands before and behind a cut, and that a joined text is cut where it was joined. Assumes nothing.
use Prim.Native.Nat.{ℕ, zero, suc, ◌+◌, ◌-◌, ◌≤◌, ◌<◌}
use mathlib.Core.Path.{◌≡◌, refl, sym, ap, ◌∙◌}
use mathlib.Core.List.{List, [], ◌∷◌, ◌++◌}
use mathlib.Core.Bool.{Bool, true, false, cond, ◌&&◌}
use native.Mathlib.Omega.{arith}
use lib.Dec.{eqb}
use lib.ListN.{length, get_or, take, drop, length-take, length-drop}
use lib.Seq.{drop-append-add}
use borrow.Author.Tests.{eq-eqb, ne_eqb, eqb-true, eqb-false}
use Rattle.text.specs.declared.Place.{Place}
use Rattle.text.specs.Place.{bytes_at}
use Rattle.text.specs.Find.{before, starts_pair, before_pair, through_last, suc_or}
use Rattle.text.specs.Word.{same, starts, ends_in}
use Rattle.text.proofs.Bools.{by_bool, clash, and_left, and_right}
use Rattle.text.proofs.Left.{next_byte, none_left}

-- texts that are the same are equal, and the other way round
pub same_eq : (s w : List ℕ) → same s w ≡ true → s ≡ w
unfolding same
same_eq [] [] e = refl
same_eq [] (y ∷ w) e = clash (cc)
same_eq (x ∷ s) [] e = clash (cc)
same_eq (x ∷ s) (y ∷ w) e =
    cc (eqb-true x y (and_left (eqb x y) (same s w) e), same_eq s w (and_right (eqb x y) (same s w) e))

pub same_refl : (s : List ℕ) → same s s ≡ true
unfolding same
same_refl [] = refl
same_refl (x ∷ s) = simp (eq-eqb x x refl, same_refl s)

-- a text is at least as long as what it begins with
pub starts_long : (w s : List ℕ) → starts w s ≡ true → length w ≤ length s
starts_long w s e = omega (arith, length-take (length w) s, ap length (same_eq (take (length w) s) w e))

-- a text that does not begin with a word begins with no longer one, and neither does its front
pub starts_front : (v w s : List ℕ) → starts v s ≡ false → starts (v ++ w) s ≡ false
unfolding same
starts_front [] w s e = clash (cc)
starts_front (x ∷ v) w [] e = refl
starts_front (x ∷ v) w (y ∷ s) e =
    by_bool (eqb y x) (λ c. simp (c, starts_front v w s (simp c at e))) (λ c. simp c)

pub starts_cut : (w s : List ℕ) (k : ℕ) → starts w s ≡ false → starts w (take k s) ≡ false
unfolding same
starts_cut [] s k e = clash (cc)
starts_cut (x ∷ w) [] zero e = refl
starts_cut (x ∷ w) [] (suc k) e = refl
starts_cut (x ∷ w) (y ∷ s) zero e = refl
starts_cut (x ∷ w) (y ∷ s) (suc k) e =
    by_bool (eqb y x) (λ c. simp (c, starts_cut w s k (simp c at e))) (λ c. simp c)

-- a text that has a last byte is not empty
pub ends_some : (b : ℕ) (s : List ℕ) → ends_in b s ≡ true → 1 ≤ length s
unfolding ends_in
ends_some b [] e = clash (cc)
ends_some b (x ∷ s) e = omega arith

-- the first b
pub before_le : (b : ℕ) (s : List ℕ) → before b s ≤ length s
unfolding before
before_le b [] = omega arith
before_le b (x ∷ s) =
    by_bool (eqb x b) (λ e. simp e (omega arith)) (λ e. simp e (omega (arith, before_le b s)))

-- the bytes before the first b of what is left from a place on
module _ (b : ℕ) (s : List ℕ) (i : ℕ) where
  pub before_here : i < length s → get_or s i 0 ≡ b → before b (drop i s) ≡ 0
  unfolding before
  before_here h e = ap (before b) (next_byte s i h) ∙ simp (eq-eqb (get_or s i 0) b e)

  pub before_later : i < length s → (get_or s i 0 ≡ b → ⊥) → before b (drop i s) ≡ 1 + before b (drop (i + 1) s)
  unfolding before
  before_later h e = ap (before b) (next_byte s i h) ∙ simp (ne_eqb (get_or s i 0) b e) (omega arith)

  pub before_end : length s ≤ i → before b (drop i s) ≡ 0
  unfolding before
  before_end h = ap (before b) (none_left s i h)

-- those that are passed, and those of what is left
pub before_drop : (b : ℕ) (s : List ℕ) (n : ℕ) → n ≤ before b s → before b s ≡ n + before b (drop n s)
unfolding before
before_drop b s zero h = omega arith
before_drop b [] (suc n) h = absurd (omega arith)
before_drop b (x ∷ s) (suc n) h =
    by_bool (eqb x b) (λ e. absurd (omega (arith, simp e at h)))
    (λ e. simp e (omega (arith, before_drop b s n (omega (arith, simp e at h)))))

-- no more than stand before any b
pub before_most : (b : ℕ) (s : List ℕ) (n : ℕ) → n < length s → get_or s n 0 ≡ b → before b s ≤ n
unfolding before
before_most b [] n h e = absurd (omega arith)
before_most b (x ∷ s) zero h e = simp (eq-eqb x b e) (omega arith)
before_most b (x ∷ s) (suc n) h e =
    by_bool (eqb x b) (λ c. simp c (omega arith)) (λ c. simp c (omega (arith, before_most b s n (omega arith) e)))

-- as many bytes stand before the first b as were counted
pub before_length : (b : ℕ) (s : List ℕ) → length (take (before b s) s) ≡ before b s
before_length b s = omega (arith, length-take (before b s) s, before_le b s)

-- the same of a count that was made
pub cut_length : (b : ℕ) (s : List ℕ) (i : ℕ) → i ≡ before b s → i ≡ length (take i s)
cut_length b s i e = rw e (sym (before_length b s))

-- what stands before the first b holds none
pub before_take : (b : ℕ) (s : List ℕ) → before b (take (before b s) s) ≡ before b s
unfolding before
before_take b [] = refl
before_take b (x ∷ s) = by_bool (eqb x b) (λ e. simp e) (λ e. simp (e, before_take b s))

-- no b in x: the first of x and y is the first of y
pub before_append : (b : ℕ) (x y : List ℕ) → before b x ≡ length x → before b (x ++ y) ≡ length x + before b y
unfolding before
before_append b [] y h = omega arith
before_append b (a ∷ x) y h =
    by_bool (eqb a b) (λ e. absurd (omega (arith, simp e at h)))
    (λ e. simp e (omega (arith, before_append b x y (omega (arith, simp e at h)))))

pub before_join : (b : ℕ) (x y : List ℕ) → before b x ≡ length x → before b (x ++ b ∷ y) ≡ length x
unfolding before
before_join b x y h = before_append b x (b ∷ y) h ∙ simp (eq-eqb b b refl) (omega arith)

pub cut_first : (b : ℕ) (s : List ℕ) → before b s < length s → take (before b s) s ++ b ∷ drop (suc (before b s)) s ≡ s
unfolding before
cut_first b [] h = absurd (omega arith)
cut_first b (x ∷ s) h =
    by_bool (eqb x b) (λ e. simp e (ap (λ (a : ℕ). a ∷ s) (sym (eqb-true x b e))))
    (λ e. simp e (ap (λ (l : List ℕ). x ∷ l) (cut_first b s (omega (arith, simp e at h)))))

-- what stands behind a joint
pub drop_join : (x : List ℕ) (b : ℕ) (y : List ℕ) (n : ℕ) → length x ≡ n → drop (n + 1) (x ++ b ∷ y) ≡ y
drop_join x b y n h = rw (← h) (drop-append-add x (b ∷ y) 1)

-- the last b
pub suc_or_le : (k n : ℕ) (t : Bool) → k ≤ n → suc_or k (cond t 1 0) ≤ suc n
suc_or_le zero n true h = omega arith
suc_or_le zero n false h = omega arith
suc_or_le (suc k) n t h = omega arith

pub last_le : (b : ℕ) (s : List ℕ) → through_last b s ≤ length s
unfolding through_last
last_le b [] = omega arith
last_le b (x ∷ s) = suc_or_le (through_last b s) (length s) (eqb x b) (last_le b s)

pub last_join : (b : ℕ) (x y : List ℕ) → through_last b y ≡ 0 → through_last b (x ++ b ∷ y) ≡ suc (length x)
unfolding through_last
last_join b [] y h = simp (h, eq-eqb b b refl)
last_join b (a ∷ x) y h = simp (last_join b x y h)

pub last_cons : (b a : ℕ) (x : List ℕ) → through_last b (a ∷ x) ≡ 0 → (eqb a b ≡ false) × (through_last b x ≡ 0)
unfolding through_last
last_cons b a x h = go (through_last b x) (eqb a b) h
  where
    go : (k : ℕ) (t : Bool) → suc_or k (cond t 1 0) ≡ 0 → (t ≡ false) × (k ≡ 0)
    go zero true h = absurd (omega arith)
    go zero false h = (refl, refl)
    go (suc k) t h = absurd (omega arith)

-- no b at all, said by either search
pub last_free : (b : ℕ) (x : List ℕ) → through_last b x ≡ 0 → before b x ≡ length x
unfolding before
last_free b [] h = refl
last_free b (a ∷ x) h = let p = last_cons b a x h in simp (p.0, last_free b x p.1)

pub free_last : (b : ℕ) (x : List ℕ) → before b x ≡ length x → through_last b x ≡ 0
unfolding before through_last
free_last b [] h = refl
free_last b (a ∷ x) h =
    by_bool (eqb a b) (λ e. absurd (omega (arith, simp e at h)))
    (λ e. simp (free_last b x (omega (arith, simp e at h)), e))

pub cut_last : (b : ℕ) (s : List ℕ) (k : ℕ) → through_last b s ≡ suc k → take k s ++ b ∷ drop (suc k) s ≡ s
unfolding through_last
cut_last b [] k h = absurd (omega arith)
cut_last b (x ∷ s) k h = go (through_last b s) (eqb x b) k (eqb-true x b) (cut_last b s) h
  where
    go : (m : ℕ) (t : Bool) (k : ℕ) → (t ≡ true → x ≡ b) → ((j : ℕ) → m ≡ suc j → take j s ++ b ∷ drop (suc j) s ≡ s)
        → suc_or m (cond t 1 0) ≡ suc k → take k (x ∷ s) ++ b ∷ drop (suc k) (x ∷ s) ≡ x ∷ s
    go zero true zero f r h = simp (f refl)
    go zero true (suc k) f r h = absurd (omega arith)
    go zero false k f r h = absurd (omega arith)
    go (suc m) t zero f r h = absurd (omega arith)
    go (suc m) t (suc k) f r h = ap (λ (l : List ℕ). x ∷ l) (r k (omega arith))

-- the first a with b straight behind it
pub pair_le : (a b : ℕ) (s : List ℕ) → before_pair a b s ≤ length s
unfolding before_pair
pair_le a b [] = omega arith
pair_le a b (x ∷ s) =
    by_bool (starts_pair a b (x ∷ s)) (λ e. simp e (omega arith)) (λ e. simp e (omega (arith, pair_le a b s)))

pub cut_pair : (a b : ℕ) (s : List ℕ) → before_pair a b s < length s
    → take (before_pair a b s) s ++ a ∷ b ∷ drop (suc (suc (before_pair a b s))) s ≡ s
unfolding before_pair
cut_pair a b [] h = absurd (omega arith)
cut_pair a b (x ∷ []) h = absurd (omega arith)
cut_pair a b (x ∷ y ∷ s) h =
    by_bool (eqb x a && eqb y b)
    (λ e. simp e (cc (eqb-true x a (and_left (eqb x a) (eqb y b) e), eqb-true y b (and_right (eqb x a) (eqb y b) e))))
    (λ e. simp e (ap (λ (l : List ℕ). x ∷ l) (cut_pair a b (y ∷ s) (omega (arith, simp e at h)))))

-- a pair that was found stands whole in s
pub pair_whole : (a b : ℕ) (s : List ℕ) → before_pair a b s < length s → before_pair a b s + 2 ≤ length s
unfolding before_pair
pair_whole a b [] h = absurd (omega arith)
pair_whole a b (x ∷ []) h = absurd (omega arith)
pair_whole a b (x ∷ y ∷ s) h =
    by_bool (eqb x a && eqb y b) (λ e. simp e (omega arith))
    (λ e. simp e (omega (arith, pair_whole a b (y ∷ s) (omega (arith, simp e at h)))))

pub pair_skip : (a b x : ℕ) (s : List ℕ) → (x ≡ a → ⊥) → before_pair a b (x ∷ s) ≡ suc (before_pair a b s)
unfolding before_pair
pair_skip a b x [] h = refl
pair_skip a b x (y ∷ s) h = simp (ne_eqb x a h)

-- no a in x: the first pair is the joint
pub pair_join : (a b : ℕ) (x y : List ℕ) → before a x ≡ length x → before_pair a b (x ++ a ∷ b ∷ y) ≡ length x
unfolding before before_pair
pair_join a b [] y h = simp (eq-eqb a a refl, eq-eqb b b refl)
pair_join a b (c ∷ x) y h =
    by_bool (eqb c a) (λ e. absurd (omega (arith, simp e at h)))
    (λ e. pair_skip a b c (x ++ a ∷ b ∷ y) (eqb-false c a e) ∙ ap suc (pair_join a b x y (omega (arith, simp e at h))))

-- a joint is a pair: the first is there or before it
pub pair_join_le : (a b : ℕ) (x y : List ℕ) → before_pair a b (x ++ a ∷ b ∷ y) ≤ length x
unfolding before_pair
pair_join_le a b [] y = simp (eq-eqb a a refl, eq-eqb b b refl) (omega arith)
pair_join_le a b (c ∷ x) y =
    by_bool (starts_pair a b (c ∷ (x ++ a ∷ b ∷ y))) (λ e. simp e (omega arith))
    (λ e. simp e (omega (arith, pair_join_le a b x y)))

-- a text that ends in b is what stands before it, and b
pub cut_end : (b : ℕ) (s : List ℕ) → ends_in b s ≡ true → take (length s - 1) s ++ b ∷ [] ≡ s
unfolding ends_in
cut_end b [] h = clash (cc)
cut_end b (x ∷ []) h = cc (eqb-true x b h)
cut_end b (x ∷ y ∷ s) h =
    let e : length (x ∷ y ∷ s) - 1 ≡ suc (length (y ∷ s) - 1) = omega arith in
    rw e (ap (λ (l : List ℕ). x ∷ l) (cut_end b (y ∷ s) h))

-- the part at a place is no longer than the whole
pub bytes_short : (p : Place) (s : List ℕ) → length (bytes_at p s) ≤ length s
unfolding bytes_at
bytes_short p s = simp (length-take, length-drop) (omega arith)
