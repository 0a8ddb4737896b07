-- Thresholds, worked out by hand from the kernel's code.
use Rattle.std.specs.Prelude.{ℕ, ◌^◌, List, [], ◌∷◌}
use Rattle.vms_base.specs.Common.{normal_threshold_of, pressure_threshold_of}
use Rattle.vms_format_trials.specs.Rows.{Row, sized}

-- the normal threshold of a zone on so many CPUs
abbrev pub normal : (managed online threshold : ℕ) → Row
normal managed online threshold = record {
  given = normal_threshold_of (sized managed 0 0 0) online;
  wanted = threshold;
}

-- the threshold under pressure
abbrev pub pressure : (min low online threshold : ℕ) → Row
pressure min low online threshold = record {
  given = pressure_threshold_of (sized 1 min low (2 ^ 42)) online;
  wanted = threshold;
}

-- twice the digits of the CPUs times one more than the digits of the blocks
abbrev pub normal_rows : List Row
normal_rows =
    normal 262144 2 20 ∷
    normal 32767 16 10 ∷
    normal 4194304 64 125 ∷
    normal 1 1 2 ∷
    normal 1 128 16 ∷
    normal 32768 1 4 ∷
    normal 65535 1 4 ∷
    normal 65536 1 6 ∷
    normal 262143 2 16 ∷
    normal 524288 64 84 ∷
    normal 1048576 16 70 ∷
    normal 1048576 127 98 ∷
    normal 2097151 64 98 ∷
    normal 2097152 64 112 ∷
    normal 4194303 127 112 ∷
    normal (2 ^ 28) 8 120 ∷
    normal (2 ^ 29) 8 125 ∷
    normal (2 ^ 40) 1 54 ∷
    normal (2 ^ 40) 3 108 ∷
    normal (2 ^ 40) 4 125 ∷
    normal (2 ^ 40) 128 125 ∷
    []

-- the pages between `min` and `low`, by CPU
abbrev pub pressure_rows : List Row
pressure_rows =
    pressure 100 125 2 12 ∷
    pressure 100 100 2 1 ∷
    pressure 0 0 128 1 ∷
    pressure (2 ^ 42) (2 ^ 42) 1 1 ∷
    pressure 7 8 1 1 ∷
    pressure 7 9 1 2 ∷
    pressure 0 124 1 124 ∷
    pressure 0 125 1 125 ∷
    pressure 0 126 1 125 ∷
    pressure 50 299 2 124 ∷
    pressure 50 300 2 125 ∷
    pressure 50 302 2 125 ∷
    pressure 0 127 128 1 ∷
    pressure 0 255 128 1 ∷
    pressure 0 256 128 2 ∷
    pressure 0 15999 128 124 ∷
    pressure 0 16000 128 125 ∷
    -- Linux's `int` holds these as -2^31, 0 and 0.
    pressure 0 (2 ^ 31) 128 125 ∷
    pressure 0 (2 ^ 32) 1 125 ∷
    pressure 0 (2 ^ 42) 128 125 ∷
    []
