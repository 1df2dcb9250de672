-- What the calls answer one after another on a plain list, under a rule of letters: a value names the clock of its first letter, and none is refused.
use Rattle.std.specs.Prelude.{ℕ, refl, List, [], ◌∷◌, Bool, false, cond, eqb, ltb, length, get_or, Result, ⊤, Ok, Err, Some, None}
use Rattle.text.specs.Example.{◌gives◌, Each}
use Rattle.text.specs.Word.{word}
use Rattle.streams.specs.Rule.{Value, Rule}
use Rattle.streams.specs.Limits.{Limits}
use Rattle.streams.specs.Streams.{Streams, number_of, without, of_clock, refused_in, in_domain, clocks_in, joined}
use Rattle.streams.specs.Calls.{Call, count, withdraw, join, refusal_number, first_of, reasons, answer, next, after}
use Rattle.streams.specs.declared.Uncounted.{Uncounted}

abbrev same_letter : Value → Value → Bool
same_letter [] w = false
same_letter (a ∷ v) [] = false
same_letter (a ∷ v) (b ∷ w) = eqb a b

-- the domain number of the clock `x` is 7, that of `y` 8; no other has one
abbrev letters : Rule
letters =
    record {
      accepted = λ v. ltb 0 (length v);
      same = same_letter;
      domain = λ v. cond (eqb (get_or v 0 0) 120) (Some 7) (cond (eqb (get_or v 0 0) 121) (Some 8) None);
    }

-- two clocks, four streams, ten bytes of memory
abbrev few : Limits
few = record { memory = 10; clocks = 2; streams = 4 }

-- 0 where a call is done
abbrev told : Result ⊤ Uncounted → ℕ
told (Ok tt) = 0
told (Err why) = refusal_number why

answers : ℕ → Streams → List Call → List ℕ
answers n l [] = []
answers n l (c ∷ cs) = told (answer letters few n c l) ∷ answers n (after letters few n c l) cs

left : Streams → List Call → Streams
left l [] = l
left l (c ∷ cs) = left (after letters few 10 c l) cs

abbrev x : Value
x = word "x"

abbrev y : Value
y = word "y"

abbrev z : Value
z = word "z"

abbrev refused : Value
refused = []

-- 24 before 26 before 25, and 27 where nothing is named
numbers : Each (λ (p : ℕ × List Call). answers p.0 [] p.1) (
    (9, count x ∷ withdraw x ∷ join x y ∷ []) gives (24 ∷ 24 ∷ 24 ∷ [])
    ∷ (10, count x ∷ count y ∷ count z ∷ count (word "xx") ∷ []) gives (0 ∷ 0 ∷ 25 ∷ 0 ∷ [])
    ∷ (10, count x ∷ count y ∷ count x ∷ count y ∷ count z ∷ count refused ∷ []) gives (0 ∷ 0 ∷ 0 ∷ 0 ∷ 26 ∷ 26 ∷ [])
    ∷ (10, count x ∷ count y ∷ withdraw y ∷ count z ∷ []) gives (0 ∷ 0 ∷ 0 ∷ 0 ∷ [])
    ∷ (10, count x ∷ count y ∷ join x y ∷ count z ∷ []) gives (0 ∷ 0 ∷ 0 ∷ 0 ∷ [])
    ∷ (10, withdraw x ∷ withdraw refused ∷ join x x ∷ []) gives (27 ∷ 27 ∷ 27 ∷ [])
    ∷ (10, count x ∷ join x x ∷ join x y ∷ join y x ∷ join x refused ∷ join refused x ∷ []) gives (0 ∷ 0 ∷ 27 ∷ 27 ∷ 27 ∷ 27 ∷ [])
    ∷ (10, count x ∷ count y ∷ join x y ∷ withdraw x ∷ withdraw y ∷ withdraw y ∷ withdraw y ∷ []) gives (0 ∷ 0 ∷ 0 ∷ 27 ∷ 0 ∷ 0 ∷ 27 ∷ [])
    ∷ (10, count refused ∷ withdraw x ∷ withdraw refused ∷ withdraw refused ∷ []) gives (0 ∷ 27 ∷ 0 ∷ 27 ∷ [])
    ∷ [])
unfolding answers answer first_of reasons refusal_number after next number_of without clocks_in joined
numbers = refl

-- streams of x, of y, of the domain numbers 7 and 8, of refused values, and the clocks that have streams
abbrev counts : Streams → List ℕ
counts l =
    of_clock letters x l ∷ of_clock letters y l ∷ in_domain letters 7 l ∷ in_domain letters 8 l ∷ refused_in letters l ∷ clocks_in letters l ∷ []

-- a joining takes the domain along, a refused value has no clock, and a call that is refused leaves every count
questions : Each (λ (cs : List Call). counts (left [] cs)) (
    [] gives (0 ∷ 0 ∷ 0 ∷ 0 ∷ 0 ∷ 0 ∷ [])
    ∷ (count x ∷ count y ∷ count x ∷ []) gives (2 ∷ 1 ∷ 2 ∷ 1 ∷ 0 ∷ 2 ∷ [])
    ∷ (count x ∷ count y ∷ count x ∷ join x y ∷ []) gives (0 ∷ 3 ∷ 0 ∷ 3 ∷ 0 ∷ 1 ∷ [])
    ∷ (count x ∷ count y ∷ count x ∷ withdraw x ∷ []) gives (1 ∷ 1 ∷ 1 ∷ 1 ∷ 0 ∷ 2 ∷ [])
    ∷ (count x ∷ count refused ∷ count z ∷ withdraw y ∷ []) gives (1 ∷ 0 ∷ 1 ∷ 0 ∷ 1 ∷ 2 ∷ [])
    ∷ (count x ∷ count y ∷ count z ∷ join z x ∷ []) gives (1 ∷ 1 ∷ 1 ∷ 1 ∷ 0 ∷ 2 ∷ [])
    ∷ [])
unfolding left answer first_of reasons refusal_number after next number_of without clocks_in joined
questions = refl
