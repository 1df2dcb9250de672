-- The state of a census, and how its counts change.
use Rattle.std.specs.Prelude.{ℕ, ◌+◌, ◌-◌, min, List, cond, ltb, get_or, set, replicate}
use Rattle.streams.specs.Limits.{most_clocks, most_streams}
use Rattle.counts.specs.declared.Census.{Census}

abbrev pub census : ℕ → ℕ → ℕ → List ℕ → Census
census u t r ds = record { used = u; total = t; refused = r; domains = ds }

-- before any call
unfoldable pub fresh_census : Census
fresh_census = census 0 0 0 (replicate 128 0)

-- as many slots are looked at as there may be clocks, or as were used where those are fewer
abbrev pub used_in : Census → ℕ
used_in c = min c.used most_clocks

-- counts stop at the most, which a census from the fresh one on never passes
abbrev pub plus : ℕ → ℕ → ℕ
plus a b = min (a + b) most_streams

-- the counts of domains with n streams more of the number d, or less; 128 is no number
unfoldable pub more : ℕ → ℕ → List ℕ → List ℕ
more d n ds = cond (ltb d 128) (set ds d (plus (get_or ds d 0) n)) ds

unfoldable pub less : ℕ → ℕ → List ℕ → List ℕ
less d n ds = cond (ltb d 128) (set ds d (get_or ds d 0 - n)) ds

-- one stream of a clock with the domain number d more, or less, in all counts but that of its slot
unfoldable pub one_more : ℕ → Census → Census
one_more d c = census c.used (plus c.total 1) c.refused (more d 1 c.domains)

unfoldable pub one_less : ℕ → Census → Census
one_less d c = census c.used (c.total - 1) c.refused (less d 1 c.domains)

-- the count of a domain number; a number over 127 has none
unfoldable pub domain_count : Census → ℕ → ℕ
domain_count c d = cond (ltb d 128) (get_or c.domains d 0) 0
