-- The rules of a grammar, as RFC 5234 writes them, each a test of a whole text: `p s` is true where the bytes s are a text of the rule p.
-- Each is defined from a text's first byte x: `λ t. p (x ∷ t)` is what a text of p may go on with after x.
use Rattle.std.specs.Prelude.{ℕ, zero, suc, Bool, true, false, cond, ◌&&◌, ◌||◌, List, [], ◌∷◌, leb}
use Prim.Native.Char.{Char, code}
use Rattle.text.specs.Find.{suc_or}

infixr 40 ◌then◌
infixr 40 ◌then_many◌
infixr 30 ◌or◌
abbrev pub Rule : Type 0
Rule = List ℕ → Bool

-- no bytes at all
unfoldable pub nothing : Rule
nothing [] = true
nothing (x ∷ s) = false

-- %xa-b: one byte, from a to b
unfoldable pub range : ℕ → ℕ → Rule
range a b [] = false
range a b (x ∷ []) = leb a x && leb x b
range a b (x ∷ y ∷ s) = false

-- %xa: one byte
abbrev pub byte : ℕ → Rule
byte a = range a a

-- "c": one letter, in this case alone
abbrev pub letter : Char → Rule
letter c = byte (code c)

-- p / q: a text of p or one of q
unfoldable pub ◌or◌ : Rule → Rule → Rule
◌or◌ p q s = p s || q s

-- p q: a text of p with a text of q behind it, wherever it is cut
unfoldable pub ◌then◌ : Rule → Rule → Rule
◌then◌ p q [] = p [] && q []
◌then◌ p q (x ∷ s) = (p [] && q (x ∷ s)) || ◌then◌ (λ t. p (x ∷ t)) q s

-- [p]: a text of p or nothing
abbrev pub maybe : Rule → Rule
maybe p = nothing or p

-- n p: exactly n texts of p
unfoldable pub times : ℕ → Rule → Rule
times zero p = nothing
times (suc n) p = p then times n p

-- *n p: at most n texts of p
unfoldable pub upto : ℕ → Rule → Rule
upto zero p = nothing
upto (suc n) p = nothing or (p then upto n p)

-- r *p: a text of r, and behind it any number of texts of p. Of each byte: the text before it is whole and a text of p begins, or it goes on
unfoldable pub ◌then_many◌ : Rule → Rule → Rule
◌then_many◌ r p [] = r []
◌then_many◌ r p (x ∷ s) = (r [] && ◌then_many◌ (λ t. p (x ∷ t)) p s) || ◌then_many◌ (λ t. r (x ∷ t)) p s

-- *p: any number of texts of p, one behind the other
abbrev pub many : Rule → Rule
many p = nothing then_many p

-- 1*p: one or more texts of p
abbrev pub one_or_more : Rule → Rule
one_or_more p = p then_many p

-- how many bytes the longest front of a text has that is a text of p: 0 where there is none, or none but the empty one
unfoldable pub longest : Rule → List ℕ → ℕ
longest p [] = 0
longest p (x ∷ s) = suc_or (longest (λ t. p (x ∷ t)) s) (cond (p (x ∷ [])) 1 0)
