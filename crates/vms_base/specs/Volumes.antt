-- How much one CPU may change over a run.
use Rattle.std.specs.Prelude.{ℕ, ◌^◌}

-- what one CPU may change one counter by, in absolute sum
abbrev pub most_volume : ℕ
most_volume = 2 ^ 48
