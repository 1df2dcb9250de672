-- Going through the lines of a text of at most 65,536 bytes: a line ends inside the text, and every line takes a byte of it or its end.
-- Assumes nothing.
use Prim.Native.Nat.{ℕ, ◌+◌, ◌-◌, ◌≤◌, ◌<◌}
use mathlib.Core.Path.{◌≡◌}
use mathlib.Core.List.{List}
use native.Mathlib.Omega.{arith}
use lib.ListN.{length, length-drop}
use mir.Val.{Fits}
use mir.Syntax.{w64}
use Rattle.text.specs.Find.{before}
use Rattle.text.proofs.Left.{rest, rest_is}
use Rattle.text.proofs.Cuts.{before_le}

pub record Lines (s : List ℕ) (lines at : ℕ) : Type 0 where
  pub long : length s ≤ 65536
  pub within : at ≤ length s + 1
  pub count : lines ≤ at

pub lines_start : (s : List ℕ) → length s ≤ 65536 → Lines s 0 0
lines_start s h = record { long = h; within = omega arith; count = omega arith }

module _ {s : List ℕ} {lines at : ℕ} (l : Lines s lines at) (h : at < length s) (len : ℕ) (e : len ≡ before 10 (rest at s)) where
  pub line_within : at + len ≤ length s
  line_within =
      let k : length (rest at s) ≡ length s - at = rw (rest_is at s) (length-drop at s) in
      omega (arith, before_le 10 (rest at s))

  pub line_fits : Fits w64 (at + len)
  line_fits = record { fits = omega (arith, line_within, l.long) }

  pub line_end : Fits w64 (at + len + 1)
  line_end = record { fits = omega (arith, line_within, l.long) }

  pub line_next : Lines s (lines + 1) (at + len + 1)
  line_next = record { long = l.long; within = omega (arith, line_within); count = omega (arith, l.count) }

pub ruleset lines_laws = (lines_start, line_within, line_fits, line_end, line_next)
