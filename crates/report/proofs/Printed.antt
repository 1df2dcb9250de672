-- Laws of what is printed: for lines and then others, and at most six bytes for each byte of the text. Assumes nothing.
use Prim.Native.Nat.{ℕ, ◌+◌, ◌*◌, ◌≤◌}
use mathlib.Core.Path.{◌≡◌, refl, sym, ap, ◌∙◌}
use mathlib.Core.List.{List, [], ◌∷◌, ◌++◌, append_assoc}
use native.Mathlib.Omega.{arith}
use lib.Dec.{eqb}
use lib.ListN.{length, length-append}
use Rattle.text.proofs.Bools.{by_bool}
use Rattle.report.specs.Lines.{without_cr, ended_from}
use Rattle.report.specs.Reply.{reply_to}
use Rattle.report.specs.Report.{printed}
use Rattle.report.proofs.Lines.{without_short}
use Rattle.report.proofs.Bounds.{reply_bound}

pub printed_append : (a b : List (List ℕ)) → printed (a ++ b) ≡ printed a ++ printed b
unfolding printed
printed_append [] b = refl
printed_append (l ∷ a) b =
    ap (λ (t : List ℕ). (reply_to l).says ++ t) (printed_append a b) ∙ sym (append_assoc (reply_to l).says (printed a) (printed b))

pub printed_bound : (begun s : List ℕ) → length (printed (ended_from begun s)) ≤ 6 * (length begun + length s)
unfolding printed ended_from
printed_bound begun [] = omega arith
printed_bound begun (b ∷ s) =
    by_bool (eqb b 10)
    (λ e. simp (e, length-append) (omega (arith, printed_bound [] s, reply_bound (without_cr begun), without_short begun)))
    (λ e. simp e (omega (arith, printed_bound (begun ++ b ∷ []) s, length-append begun (b ∷ []))))
