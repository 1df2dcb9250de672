-- What the functions that pass bytes owe.
use Rattle.std.specs.Prelude.{ℕ, ◌+◌, ◌-◌, ◌≤◌, ◌<◌, ◌≡◌, List, length, drop}
use Rattle.text.specs.Find.{before}

-- r bytes of s are passed, and none of them is b
abbrev pub Passes : ℕ → List ℕ → ℕ → Type 0
Passes b s r = (r ≤ length s) × (before b s ≡ r + before b (drop r s))

-- the same, and where eight are left one of the next eight is b
abbrev pub Nears : ℕ → List ℕ → ℕ → Type 0
Nears b s r = Passes b s r × (8 ≤ length s - r → before b (drop r s) < 8)
