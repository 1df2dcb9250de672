-- What stands at a place of memory after a text was stored at another: the numbers come back, and all others are what they were. Assumes nothing.
use Prim.Native.Nat.{ℕ, suc, ◌+◌, ◌*◌, ◌-◌, ◌/◌, ◌%◌, ◌≤◌, ◌<◌}
use mathlib.Core.Path.{◌≡◌, refl, sym, ap, ◌∙◌}
use mathlib.Core.List.{List, [], ◌∷◌, ◌++◌, append-nil}
use native.Mathlib.Omega.{arith}
use lib.ListN.{length, take, drop, set, length-append, length-drop}
use lib.Seq.{sets, sets-eq, length-take-le, take-set-le, drop-set-lt, drop-set-add, take-append-le, drop-append-le, drop-append-add, take_at, drop_at}
use borrow.Author.Tests.{le-ltb}
use Rattle.text.specs.Place.{place, bytes_at}
use Rattle.quads.specs.Quad.{quad, quad_of, number_at, QuadBack}

pub quad_length : (n : ℕ) → length (quad n) ≡ 4
unfolding quad
quad_length n = refl

four_bytes : (a b c d : ℕ) (s : List ℕ) → quad_of (a ∷ b ∷ c ∷ d ∷ s) ≡ ((a * 256 + b) * 256 + c) * 256 + d
unfolding quad_of
four_bytes a b c d s = simp (le-ltb (length (a ∷ b ∷ c ∷ d ∷ s)) 4 (omega arith))

pub quad_back : QuadBack
unfolding quad
quad_back n s h = four_bytes (n / 16777216) (n / 65536 % 256) (n / 256 % 256) (n % 256) s ∙ omega arith

-- the n bytes from p on, where one byte before or behind them is set
set_before : (p n i a : ℕ) (m : List ℕ) → p + n ≤ i → take n (drop p (set m i a)) ≡ take n (drop p m)
set_before p n i a m h =
    let e : i ≡ p + (i - p) = omega arith in
    ap (λ (k : ℕ). take n (drop p (set m k a))) e
    ∙ ap (take n) (drop-set-add p m (i - p) a)
    ∙ take-set-le n (drop p m) (i - p) a (omega arith)

-- or where a text is
pub stored_before : (p n at : ℕ) (m t : List ℕ) → p + n ≤ at → bytes_at (place p n) (sets m at t) ≡ bytes_at (place p n) m
unfolding bytes_at
stored_before p n at m [] h = refl
stored_before p n at m (a ∷ t) h = stored_before p n (suc at) (set m at a) t (omega arith) ∙ set_before p n at a m h

pub stored_behind : (p n at : ℕ) (m t : List ℕ) → at + length t ≤ p → bytes_at (place p n) (sets m at t) ≡ bytes_at (place p n) m
unfolding bytes_at
stored_behind p n at m [] h = refl
stored_behind p n at m (a ∷ t) h = stored_behind p n (suc at) (set m at a) t (omega arith) ∙ ap (take n) (drop-set-lt p m at a (omega arith))

-- and inside the text
pub stored_inside : (k n at : ℕ) (m t : List ℕ) → at + length t ≤ length m → k + n ≤ length t
    → bytes_at (place (at + k) n) (sets m at t) ≡ bytes_at (place k n) t
unfolding bytes_at
stored_inside k n at m t h g =
    let front : length (take at m) ≡ at = length-take-le at m (omega arith) in
    let both : length (take at m ++ t) ≡ at + length t = length-append (take at m) t ∙ ap (λ (x : ℕ). x + length t) front in
    let e : at + k ≡ length (take at m) + k = ap (λ (x : ℕ). x + k) (sym front) in
    let rest : length (drop k t) ≡ length t - k = length-drop k t in
    ap (λ (x : List ℕ). take n (drop (at + k) x)) (sets-eq t m at h)
    ∙ ap (take n) (drop-append-le (at + k) (take at m ++ t) (drop (at + length t) m) (omega arith))
    ∙ ap (λ (x : ℕ). take n (drop x (take at m ++ t) ++ drop (at + length t) m)) e
    ∙ ap (λ (x : List ℕ). take n (x ++ drop (at + length t) m)) (drop-append-add (take at m) t k)
    ∙ take-append-le n (drop k t) (drop (at + length t) m) (omega arith)

-- the same of numbers
pub number_before : (p at : ℕ) (m t : List ℕ) → p + 4 ≤ at → number_at (sets m at t) p ≡ number_at m p
unfolding number_at
number_before p at m t h = ap quad_of (stored_before p 4 at m t h)

pub number_behind_it : (p at : ℕ) (m t : List ℕ) → at + length t ≤ p → number_at (sets m at t) p ≡ number_at m p
unfolding number_at
number_behind_it p at m t h = ap quad_of (stored_behind p 4 at m t h)

-- a number that stands k bytes behind the front of a text
quad_there : (k n : ℕ) (s t : List ℕ) → length s ≡ k → bytes_at (place k 4) (s ++ (quad n ++ t)) ≡ quad n
unfolding bytes_at
quad_there k n s t e = ap (take 4) (drop_at s (quad n ++ t) k e) ∙ take_at (quad n) t 4 (quad_length n)

pub number_inside : (k n at : ℕ) (m s t : List ℕ) → at + length (s ++ (quad n ++ t)) ≤ length m → length s ≡ k → n < 4294967296
    → number_at (sets m at (s ++ (quad n ++ t))) (at + k) ≡ n
unfolding number_at
number_inside k n at m s t h e small =
    ap quad_of (stored_inside k 4 at m (s ++ (quad n ++ t)) h (omega (arith, length-append s (quad n ++ t), length-append (quad n) t, quad_length n)))
    ∙ ap quad_of (quad_there k n s t e)
    ∙ ap quad_of (sym (append-nil (quad n)))
    ∙ quad_back n [] small
