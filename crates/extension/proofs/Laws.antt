-- One law for each way out of this crate's functions, and those by which a reader makes its own record. Assumes nothing.
use Rattle.std.specs.Prelude.{Option, Some, None, Ok, Err}
use Prim.Native.Nat.{ℕ, ◌+◌, ◌-◌, ◌*◌, ◌^◌, ◌≤◌, ◌<◌}
use mathlib.Core.Path.{◌≡◌, refl}
use mathlib.Core.List.{List, [], ◌∷◌, ◌++◌}
use mathlib.Core.Bool.{Bool, true, false, cond}
use native.Mathlib.Omega.{arith}
use lib.Dec.{eqb}
use lib.ListN.{length, length-drop}
use borrow.Author.Tests.{lt-ltb, le-ltb}
use Rattle.text.specs.Find.{before}
use Rattle.text.specs.declared.Place.{Place}
use Rattle.text.specs.Place.{place, bytes_at}
use Rattle.meaning.specs.Answer.{refuse, ◌>>=◌, extension_of}
use Rattle.meaning.specs.Meaning.{value_means}
use Rattle.meaning.specs.Text.{value_text}
use Rattle.text.proofs.Cuts.{before_le, before_length}
use Rattle.room.specs.Put.{Put}
use Rattle.room.proofs.Laws.{put_none, put_then, put_wider}
use Rattle.extension.specs.Parts.{extension_of_parts}

-- `read_extension`
module _ (k at : ℕ) (s : List ℕ) where
  pub extension_value : before 61 s < length s → extension_of extension_of_parts k at s
      ≡ cond (eqb (before 61 s) 0) (refuse k at 0)
      (Ok (extension_of_parts (place at (before 61 s)) (Some (place (at + (before 61 s + 1)) (length s - (before 61 s + 1))))))
  unfolding extension_of
  extension_value l = simp (lt-ltb _ _ l)

  pub extension_name : length s ≤ before 61 s → extension_of extension_of_parts k at s
      ≡ cond (eqb (before 61 s) 0) (refuse k at 0) (Ok (extension_of_parts (place at (before 61 s)) None))
  unfolding extension_of
  extension_name l = simp (le-ltb _ _ l)

-- a record that is made of the name and the value is made of the parts
pub extension_parts : {A : Type 0} (make : Place → Option Place → A) (k at : ℕ) (s : List ℕ)
    → extension_of make k at s ≡ (extension_of extension_of_parts k at s >>= λ e. Ok (make e.name e.value))
unfolding extension_of
extension_parts make k at s = go (eqb (before 61 s) 0) _ _
  where
    go : (none : Bool) (n : Place) (v : Option Place)
        → cond none (refuse k at 0) (Ok (make n v))
        ≡ (cond none (refuse k at 0) (Ok (extension_of_parts n v)) >>= λ e. Ok (make e.name e.value))
    go true n v = refl
    go false n v = refl

-- `put_value`
module _ (v : List ℕ) (x : Option Place) {l : List ℕ} {at : ℕ} where
  pub value_none : x ≡ None → at < 2 ^ 64 → length l < 2 ^ 64 → Put (length v + 1) l at (value_text (value_means v x)) at l
  value_none e h k = rw e (put_wider (put_none l at h k) (omega arith))

  pub value_some : {next last : ℕ} {m r : List ℕ} (p : Place) → x ≡ Some p → Put 1 l at (61 ∷ []) next m
      → Put (length v) m next (bytes_at p v) last r
      → Put (length v + 1) l at (value_text (value_means v x)) last r
  value_some p e f g = rw e (put_wider (put_then f g) (omega arith))

-- `put_extension`
pub extension_put : (v : List ℕ) (name : Place) (x : Option Place) {at next last : ℕ} {l m r : List ℕ} → Put (length v) l at (bytes_at name v) next m
    → Put (length v + 1) m next (value_text (value_means v x)) last r
    → Put (2 * length v + 1) l at (bytes_at name v ++ value_text (value_means v x)) last r
extension_put v name x f g = put_wider (put_then f g) (omega arith)

pub ruleset laws = (
  before_le,
  before_length,
  length-drop,
  extension_value,
  extension_name,
  value_none,
  value_some,
  extension_put,
)
