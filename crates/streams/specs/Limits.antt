-- How much a census takes. Whatever is said over any limits holds of these; they stand here and, for the code, in src/lib.rt.
use Rattle.std.specs.Prelude.{ℕ}

pub record Limits : Type 0 where
  -- how many bytes must be lent
  pub memory : ℕ
  -- how many clocks may have streams at once
  pub clocks : ℕ
  -- how many streams there may be, those of refused values among them
  pub streams : ℕ

abbrev pub least_memory : ℕ
least_memory = 270000

abbrev pub most_clocks : ℕ
most_clocks = 255

abbrev pub most_streams : ℕ
most_streams = 4294967295

abbrev pub limits : Limits
limits = record { memory = least_memory; clocks = most_clocks; streams = most_streams }
