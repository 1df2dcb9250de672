-- Laws of the rules: a sequence distributes over a choice and is associative; a sequence whose first part cannot hold the separator behind it is
-- a cut at the first separator; a text of a sequence is cut in two, and two texts are joined to one. Assumes nothing.
use Prim.Native.Nat.{ℕ}
use mathlib.Core.Path.{◌≡◌, refl, sym, ap, ◌∙◌}
use mathlib.Core.Bool.{Bool, true, false, ◌&&◌, ◌||◌, cond, and-true, and-false, or-false, and_assoc, or_assoc, and-or_distrib_left, and-or_distrib_right}
use mathlib.Core.List.{List, [], ◌∷◌, ◌++◌}
use native.Mathlib.Omega.{arith}
use lib.Dec.{leb, eqb}
use borrow.Author.Tests.{le-leb, eq-eqb, eqb-true, leb-true}
use Rattle.text.proofs.Bools.{by_bool, clash, both_ways, both, and_left, and_right, or_left, or_right}
use Rattle.abnf.specs.Rule.{Rule, nothing, range, byte, ◌then◌}

-- what the laws of sequences come to at a byte: tests alone
pub or_pairs : (x y z u v : Bool) → ((x || y) && z) || (u || v) ≡ ((x && z) || u) || ((y && z) || v)
or_pairs true y true u v = refl
or_pairs true true false u v = refl
or_pairs true false false u v = refl
or_pairs false true true true v = refl
or_pairs false true true false v = refl
or_pairs false true false u v = refl
or_pairs false false z u v = refl

pub or_nests : (a b c d e : Bool) → ((a && b) && c) || ((a && d) || e) ≡ (a && ((b && c) || d)) || e
or_nests true b c d e = sym (or_assoc (b && c) d e)
or_nests false b c d e = refl

-- p has no text
pub then_none : (p q : Rule) → ((t : List ℕ) → p t ≡ false) → (s : List ℕ) → (p then q) s ≡ false
unfolding ◌then◌
then_none p q h [] = rw (h [])
then_none p q h (x ∷ s) = rw (h []) (then_none (λ t. p (x ∷ t)) q (λ t. h (x ∷ t)) s)

pub then_or : (a b r : Rule) (s : List ℕ) → ((λ t. a t || b t) then r) s ≡ (a then r) s || (b then r) s
unfolding ◌then◌
then_or a b r [] = and-or_distrib_right (a []) (b []) (r [])
then_or a b r (x ∷ s) =
    rw (then_or (λ t. a (x ∷ t)) (λ t. b (x ∷ t)) r s)
    (or_pairs (a []) (b []) (r (x ∷ s)) (((λ t. a (x ∷ t)) then r) s) (((λ t. b (x ∷ t)) then r) s))

pub then_and : (k : Bool) (a r : Rule) (s : List ℕ) → ((λ t. k && a t) then r) s ≡ k && (a then r) s
then_and true a r s = refl
then_and false a r s = then_none (λ t. false) r (λ t. refl) s

pub then_assoc : (p q r : Rule) (s : List ℕ) → ((p then q) then r) s ≡ (p then (q then r)) s
unfolding ◌then◌
then_assoc p q r [] = and_assoc (p []) (q []) (r [])
then_assoc p q r (x ∷ s) =
    rw (then_or (λ t. p [] && q (x ∷ t)) ((λ t. p (x ∷ t)) then q) r s)
    (rw (then_and (p []) (λ t. q (x ∷ t)) r s)
    (rw (then_assoc (λ t. p (x ∷ t)) q r s)
    (or_nests (p []) (q []) (r (x ∷ s)) (((λ t. q (x ∷ t)) then r) s) (((λ t. p (x ∷ t)) then (q then r)) s))))

pub nothing_then : (q : Rule) (s : List ℕ) → (nothing then q) s ≡ q s
unfolding ◌then◌ nothing
nothing_then q [] = refl
nothing_then q (x ∷ s) = rw (then_none (λ t. nothing (x ∷ t)) q (λ t. refl) s) (or-false (q (x ∷ s)))

pub range_then_nil : (a b : ℕ) (q : Rule) → (range a b then q) [] ≡ false
unfolding ◌then◌ range
range_then_nil a b q = refl

pub range_then : (a b : ℕ) (q : Rule) (x : ℕ) (s : List ℕ) → (range a b then q) (x ∷ s) ≡ (leb a x && leb x b) && q s
unfolding ◌then◌ range
range_then a b q x [] = refl
range_then a b q x (y ∷ s) =
    rw (then_none (λ t. range a b (x ∷ y ∷ t)) q (λ t. refl) s)
    (or-false ((leb a x && leb x b) && q (y ∷ s)))

-- the first byte of a range is the last
pub range_first : (a b x : ℕ) (s : List ℕ) → range a b (x ∷ s) ≡ (leb a x && leb x b) && nothing s
unfolding range nothing
range_first a b x [] = sym (and-true (leb a x && leb x b))
range_first a b x (y ∷ s) = sym (and-false (leb a x && leb x b))

-- the first c cuts the text into a text of p and one of q
unfoldable pub cut : ℕ → Rule → Rule → Rule
cut c p q [] = false
cut c p q (x ∷ s) = cond (eqb x c) (p [] && q s) (cut c (λ t. p (x ∷ t)) q s)

-- no text of p has a c in it
abbrev pub Free : ℕ → Rule → Type 0
Free c p = (s t : List ℕ) → p (s ++ c ∷ t) ≡ false

-- one byte, said by an equation
pub byte_is : (a x : ℕ) → (leb a x && leb x a) ≡ eqb x a
byte_is a x =
    both_ways (leb a x && leb x a) (eqb x a)
    (λ e. eq-eqb x a (omega (arith, leb-true a x (and_left (leb a x) (leb x a) e), leb-true x a (and_right (leb a x) (leb x a) e))))
    (λ e. both (le-leb a x (omega (arith, eqb-true x a e))) (le-leb x a (omega (arith, eqb-true x a e))))

pub cut_then : (c : ℕ) (p q : Rule) → Free c p → (s : List ℕ) → (p then byte c then q) s ≡ cut c p q s
unfolding ◌then◌ cut range
cut_then c p q f [] = and-false (p [])
cut_then c p q f (x ∷ s) =
    rw (range_then c c q x s)
    (rw (byte_is c x) (go (eqb x c) refl (λ g. cut_then c (λ t. p (x ∷ t)) q g s)))
  where
    go : (b : Bool) → eqb x c ≡ b
        → (Free c (λ t. p (x ∷ t)) → ((λ t. p (x ∷ t)) then byte c then q) s ≡ cut c (λ t. p (x ∷ t)) q s)
        → (p [] && (b && q s)) || ((λ t. p (x ∷ t)) then byte c then q) s ≡ cond b (p [] && q s) (cut c (λ t. p (x ∷ t)) q s)
    go true e ih =
        rw (then_none (λ t. p (x ∷ t)) (byte c then q) (λ t. rw (eqb-true x c e) (f [] t)) s) (or-false (p [] && q s))
    go false e ih = rw (and-false (p [])) (ih (λ u t. f (x ∷ u) t))

pub cut_or : (c : ℕ) (p a b : Rule) (s : List ℕ) → cut c p (λ t. a t || b t) s ≡ cut c p a s || cut c p b s
unfolding cut
cut_or c p a b [] = refl
cut_or c p a b (x ∷ s) = go (eqb x c) (cut_or c (λ t. p (x ∷ t)) a b s)
  where
    go : (k : Bool) → cut c (λ t. p (x ∷ t)) (λ t. a t || b t) s ≡ cut c (λ t. p (x ∷ t)) a s || cut c (λ t. p (x ∷ t)) b s
        → cond k (p [] && (a s || b s)) (cut c (λ t. p (x ∷ t)) (λ t. a t || b t) s)
        ≡ cond k (p [] && a s) (cut c (λ t. p (x ∷ t)) a s) || cond k (p [] && b s) (cut c (λ t. p (x ∷ t)) b s)
    go true h = and-or_distrib_left (p []) (a s) (b s)
    go false h = h

-- nothing follows the cut
pub cut_none : (c : ℕ) (p : Rule) (s : List ℕ) → cut c p (λ t. false) s ≡ false
unfolding cut
cut_none c p [] = refl
cut_none c p (x ∷ s) = go (eqb x c) (cut_none c (λ t. p (x ∷ t)) s)
  where
    go : (k : Bool) → cut c (λ t. p (x ∷ t)) (λ t. false) s ≡ false → cond k (p [] && false) (cut c (λ t. p (x ∷ t)) (λ t. false) s) ≡ false
    go true h = and-false (p [])
    go false h = h

-- a text that is cut has the separator in it
pub record Has (c : ℕ) (s : List ℕ) : Type 0 where
  pub front : List ℕ
  pub back : List ℕ
  pub is : s ≡ front ++ c ∷ back

pub cut_has : (c : ℕ) (p q : Rule) (s : List ℕ) → cut c p q s ≡ true → Has c s
unfolding cut
cut_has c p q [] e = clash (cc)
cut_has c p q (x ∷ s) e = go (eqb x c) refl e (cut_has c (λ t. p (x ∷ t)) q s)
  where
    go : (k : Bool) → eqb x c ≡ k → cond k (p [] && q s) (cut c (λ t. p (x ∷ t)) q s) ≡ true
        → (cut c (λ t. p (x ∷ t)) q s ≡ true → Has c s) → Has c (x ∷ s)
    go true h e ih = record { front = []; back = s; is = rw (eqb-true x c h) }
    go false h e ih = record { front = x ∷ (ih e).front; back = (ih e).back; is = ap (λ (l : List ℕ). x ∷ l) (ih e).is }

-- a text of a rule that is free of c has no c
pub has_free : (c : ℕ) (p : Rule) (s : List ℕ) → Free c p → Has c s → p s ≡ false
has_free c p s f h = ap p h.is ∙ f h.front h.back

-- the first c with a c behind it cuts the text into a text of p and one of q
unfoldable pub cut2 : ℕ → Rule → Rule → Rule
cut2 c p q [] = false
cut2 c p q (x ∷ []) = false
cut2 c p q (x ∷ y ∷ s) = cond (eqb x c && eqb y c) (p [] && q s) (cut2 c (λ t. p (x ∷ t)) q (y ∷ s))

-- no text of p has two c in a row, or ends in c
pub record Tidy (c : ℕ) (p : Rule) : Type 0 where
  pub last : (s : List ℕ) → p (s ++ c ∷ []) ≡ false
  pub double : (s t : List ℕ) → p (s ++ c ∷ c ∷ t) ≡ false

pub then_nothing : (p : Rule) (s : List ℕ) → (p then nothing) s ≡ p s
unfolding ◌then◌ nothing
then_nothing p [] = and-true (p [])
then_nothing p (x ∷ s) = rw (and-false (p [])) (then_nothing (λ t. p (x ∷ t)) s)

-- two c and what follows
gap_cons : (c : ℕ) (q : Rule) (x y : ℕ) (s : List ℕ) → ((byte c then byte c) then q) (x ∷ y ∷ s) ≡ eqb x c && (eqb y c && q s)
gap_cons c q x y s =
    then_assoc (byte c) (byte c) q (x ∷ y ∷ s)
    ∙ rw (range_then c c (byte c then q) x (y ∷ s), range_then c c q y s, byte_is c x, byte_is c y)

gap_one : (c : ℕ) (q : Rule) (x : ℕ) → ((byte c then byte c) then q) (x ∷ []) ≡ false
gap_one c q x =
    then_assoc (byte c) (byte c) q (x ∷ [])
    ∙ rw (range_then c c (byte c then q) x [], range_then_nil c c q) (and-false (leb c x && leb x c))

gap_nil : (c : ℕ) (q : Rule) → ((byte c then byte c) then q) [] ≡ false
gap_nil c q = then_assoc (byte c) (byte c) q [] ∙ range_then_nil c c (byte c then q)

tidy_more : (c : ℕ) (p : Rule) (x : ℕ) → Tidy c p → Tidy c (λ t. p (x ∷ t))
tidy_more c p x r = record { last = λ s. r.last (x ∷ s); double = λ s t. r.double (x ∷ s) t }

pub cut2_then : (c : ℕ) (p q : Rule) → Tidy c p → (s : List ℕ) → (p then (byte c then byte c) then q) s ≡ cut2 c p q s
unfolding ◌then◌ cut2
cut2_then c p q r [] = rw (gap_nil c q) (and-false (p []))
cut2_then c p q r (x ∷ []) = rw (gap_one c q x, gap_nil c q, and-false (p []), and-false (p (x ∷ [])))
cut2_then c p q r (x ∷ y ∷ s) =
    rw (gap_cons c q x y s)
    (go (eqb x c) refl (eqb y c) refl (cut2_then c (λ t. p (x ∷ t)) q (tidy_more c p x r) (y ∷ s)))
  where
    two : x ≡ c → y ≡ c → ((λ t. p (x ∷ t)) then (byte c then byte c) then q) (y ∷ s) ≡ false
    two e f =
        rw (e, f, r.last [], then_none (λ t. p (c ∷ c ∷ t)) ((byte c then byte c) then q) (λ t. r.double [] t) s)

    go : (a : Bool) → eqb x c ≡ a → (b : Bool) → eqb y c ≡ b
        → ((λ t. p (x ∷ t)) then (byte c then byte c) then q) (y ∷ s) ≡ cut2 c (λ t. p (x ∷ t)) q (y ∷ s)
        → (p [] && (a && (b && q s))) || ((λ t. p (x ∷ t)) then (byte c then byte c) then q) (y ∷ s)
        ≡ cond (a && b) (p [] && q s) (cut2 c (λ t. p (x ∷ t)) q (y ∷ s))
    go true e true f ih = rw (two (eqb-true x c e) (eqb-true y c f)) (or-false (p [] && q s))
    go true e false f ih = rw (and-false (p [])) ih
    go false e b f ih = rw (and-false (p [])) ih

-- a text of p then q, cut in two
pub record Split (p q : Rule) (s : List ℕ) : Type 0 where
  pub front : List ℕ
  pub back : List ℕ
  pub is : front ++ back ≡ s
  pub first : p front ≡ true
  pub second : q back ≡ true

pub then_split : (p q : Rule) (s : List ℕ) → (p then q) s ≡ true → Split p q s
unfolding ◌then◌
then_split p q [] h =
    record { front = []; back = []; is = refl; first = and_left (p []) (q []) h; second = and_right (p []) (q []) h }
then_split p q (x ∷ s) h =
    by_bool (p [] && q (x ∷ s))
    (λ e. record { front = []; back = x ∷ s; is = refl; first = and_left (p []) (q (x ∷ s)) e; second = and_right (p []) (q (x ∷ s)) e })
    (λ e.
    let c = then_split (λ t. p (x ∷ t)) q s (simp e at h) in
    record { front = x ∷ c.front; back = c.back; is = ap (λ (l : List ℕ). x ∷ l) c.is; first = c.first; second = c.second })

-- and a text of p and one of q are joined to a text of the sequence
pub then_join : (p q : Rule) (x y : List ℕ) → p x ≡ true → q y ≡ true → (p then q) (x ++ y) ≡ true
unfolding ◌then◌
then_join p q [] [] h k = both h k
then_join p q [] (b ∷ y) h k = or_left (((λ t. p (b ∷ t)) then q) y) (both h k)
then_join p q (a ∷ x) y h k = or_right (p [] && q (a ∷ (x ++ y))) (then_join (λ t. p (a ∷ t)) q x y h k)

-- where each text of p is one of u, and each of q one of v, so it is of the sequences
pub then_within : (p q u v : Rule) → ((s : List ℕ) → p s ≡ true → u s ≡ true) → ((s : List ℕ) → q s ≡ true → v s ≡ true)
    → (s : List ℕ) → (p then q) s ≡ true → (u then v) s ≡ true
then_within p q u v f g s h =
    let k = then_split p q s h in
    rw k.is at (then_join u v k.front k.back (f k.front k.first) (g k.back k.second))
