-- What is settled of a part. Assumes nothing.
use Prim.Native.Nat.{ℕ}
use mathlib.Core.Path.{◌≡◌, sym, ◌∙◌}
use Rattle.text.specs.Place.{PartSettled}

-- a block and a start in it
pointer_eq : (a b : ℕ × ℕ) → a.0 ≡ b.0 → a.1 ≡ b.1 → a ≡ b
pointer_eq a b e f = λ i. (e i, f i)

pub part_settled : PartSettled
part_settled s p q r a b =
    record {
      ptr = pointer_eq q.ref_ptr r.ref_ptr (a.block ∙ sym b.block) (a.start ∙ sym b.start);
      bytes = a.bytes ∙ sym b.bytes;
    }
