-- Two manners of reading one grammar: as published, or narrowed to what reading takes. Wherever reading is stricter than the RFC, the grammar
-- says so in its place: `p only q` is the published rule p, narrowed to those of its texts that are also texts of q.
use Rattle.std.specs.Prelude.{ℕ, ◌+◌, cond, ◌&&◌, not, List, map, leb, eqb, length}
use Prim.Native.String.{String}
use Rattle.text.specs.Word.{word, same}
use Rattle.number.specs.Decimal.{value_from}
use Rattle.number.specs.Hex.{between}
use Rattle.abnf.specs.Rule.{Rule}

pub data Manner : Type 0 where
  published narrowed : Manner

unfoldable pub only_in : Manner → Rule → Rule → Rule
only_in published p q s = p s
only_in narrowed p q s = p s && q s

-- a letter as a small one
abbrev pub small : ℕ → ℕ
small b = cond (between 65 90 b) (b + 32) b

-- the letters of w in either case
abbrev pub either_case : List ℕ → Rule
either_case w s = same (map small s) (map small w)

-- the bytes of w
abbrev pub exactly : List ℕ → Rule
exactly w s = same s w

-- digits of a value up to a limit
abbrev pub up_to : ℕ → Rule
up_to limit s = leb (value_from 0 s) limit

-- one byte or more
abbrev pub not_empty : Rule
not_empty s = not (eqb (length s) 0)

module _ (m : Manner) where
  -- "w": by RFC 5234, section 2.3, in either case, and narrowed to the case that is written
  unfoldable pub quoted : String → Rule
  quoted w = only_in m (either_case (word w)) (exactly (word w))
