-- Cuts of a text as the parts at their places. Assumes nothing.
use Prim.Native.Nat.{ℕ, ◌-◌, min}
use native.Mathlib.Omega.{arith}
use mathlib.Core.Path.{◌≡◌, sym, ◌∙◌}
use mathlib.Core.List.{List}
use lib.ListN.{length, take, drop, length-drop}
use lib.Seq.{take_all}
use Rattle.text.specs.Place.{place, bytes_at}
use Rattle.text.proofs.Laws.{take_cut, drop_cut}

-- `front`
pub front_bytes : (s : List ℕ) (n m : ℕ) → m ≡ min n (length s) → take m s ≡ bytes_at (place 0 n) s
unfolding bytes_at
front_bytes s n m e = rw e (take_cut n s)

-- `behind`
pub behind_bytes : (s : List ℕ) (n m : ℕ) → m ≡ min n (length s) → take (length s - m) (drop m s) ≡ bytes_at (place n (length s)) s
unfolding bytes_at
behind_bytes s n m e =
    let all : take (length s - m) (drop m s) ≡ drop m s = take_all (length s - m) (drop m s) (omega (arith, length-drop m s)) in
    let same_end : take (length s) (drop n s) ≡ drop n s = take_all (length s) (drop n s) (omega (arith, length-drop n s)) in
    all ∙ rw e (drop_cut n s) ∙ sym same_end
