-- Laws of the totals: those of lines and then others, and that counting line by line in 32 bits makes them. Assumes nothing.
use Prim.Native.Nat.{ℕ, ◌+◌, ◌^◌, ◌<◌}
use mathlib.Core.Path.{◌≡◌, refl, sym, ap, ◌∙◌}
use mathlib.Core.List.{List, [], ◌∷◌, ◌++◌}
use native.Mathlib.Nat.{zero-add, add-zero, add_assoc}
use native.Mathlib.Omega.{arith}
use lib.ListN.{length, length-append}
use Rattle.report.specs.Reply.{reply_to}
use Rattle.report.specs.Report.{totals, totals_of_one, ◌plus◌, totals_of}
use Rattle.report.specs.Reader.{plus32, counted, counted_all}
use Rattle.report.specs.declared.Kind.{Kind}
use Rattle.report.specs.declared.Kind.TheVariants.{Accepted, Refused, Other, Long}
use Rattle.report.specs.declared.Totals.{Totals}

-- the totals of the kinds are together those of the lines
pub record Adds (t : Totals) : Type 0 where
  pub sum : t.lines ≡ t.ok + t.no + t.other + t.long

one_adds : (k : Kind) → Adds (totals_of_one k)
one_adds Accepted = record { sum = refl }
one_adds Refused = record { sum = refl }
one_adds Other = record { sum = refl }
one_adds Long = record { sum = refl }

one_line : (k : Kind) → (totals_of_one k).lines ≡ 1
one_line Accepted = refl
one_line Refused = refl
one_line Other = refl
one_line Long = refl

plus_adds : (a b : Totals) → Adds a → Adds b → Adds (a plus b)
plus_adds a b p q = record { sum = omega (arith, p.sum, q.sum) }

pub totals_add : (ls : List (List ℕ)) → Adds (totals_of ls)
unfolding totals_of
totals_add [] = record { sum = refl }
totals_add (l ∷ ls) = plus_adds (totals_of_one (reply_to l).kind) (totals_of ls) (one_adds (reply_to l).kind) (totals_add ls)

pub totals_lines : (ls : List (List ℕ)) → (totals_of ls).lines ≡ length ls
unfolding totals_of
totals_lines [] = refl
totals_lines (l ∷ ls) = omega (arith, one_line (reply_to l).kind, totals_lines ls)

plus_zero : (t : Totals) → t plus totals 0 0 0 0 0 ≡ t
plus_zero t = simp add-zero

plus_assoc : (a b c : Totals) → (a plus b) plus c ≡ a plus (b plus c)
plus_assoc a b c = simp add_assoc

pub totals_append : (a b : List (List ℕ)) → totals_of (a ++ b) ≡ totals_of a plus totals_of b
unfolding totals_of
totals_append [] b = simp zero-add
totals_append (l ∷ a) b =
    ap (λ (t : Totals). totals_of_one (reply_to l).kind plus t) (totals_append a b)
    ∙ sym (plus_assoc (totals_of_one (reply_to l).kind) (totals_of a) (totals_of b))

-- below the limit no count wraps
small : (a b : ℕ) → a + b < 2 ^ 32 → plus32 a b ≡ a + b
small a b h = omega arith

counted_plus : (t : Totals) (k : Kind) → Adds t → t.lines + 1 < 2 ^ 32 → counted t k ≡ t plus totals_of_one k
unfolding counted
counted_plus t k a h =
    let o = one_adds k in
    let n = one_line k in
    let one = totals_of_one k in
    cc (
      small t.lines one.lines (omega (arith, n)),
      small t.ok one.ok (omega (arith, a.sum, o.sum, n)),
      small t.no one.no (omega (arith, a.sum, o.sum, n)),
      small t.other one.other (omega (arith, a.sum, o.sum, n)),
      small t.long one.long (omega (arith, a.sum, o.sum, n)),
    )

pub counted_all_lem : (t : Totals) (ls : List (List ℕ)) → Adds t → t.lines + length ls < 2 ^ 32 → counted_all t ls ≡ t plus totals_of ls
unfolding counted_all totals_of
counted_all_lem t [] a h = sym (plus_zero t)
counted_all_lem t (l ∷ ls) a h =
    let k = (reply_to l).kind in
    ap (λ (u : Totals). counted_all u ls) (counted_plus t k a (omega arith))
    ∙ counted_all_lem (t plus totals_of_one k) ls (plus_adds t (totals_of_one k) a (one_adds k)) (omega (arith, one_line k))
    ∙ plus_assoc t (totals_of_one k) (totals_of ls)

-- counting goes on from the totals of the lines before
pub counted_on : (a b : List (List ℕ)) → length (a ++ b) < 2 ^ 32 → counted_all (totals_of a) b ≡ totals_of (a ++ b)
counted_on a b h =
    counted_all_lem (totals_of a) b (totals_add a) (omega (arith, totals_lines a, length-append a b)) ∙ sym (totals_append a b)
