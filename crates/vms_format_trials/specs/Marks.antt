-- Drift marks, worked out by hand.
use Rattle.std.specs.Prelude.{ℕ, ◌^◌, List, [], ◌∷◌}
use Rattle.vms_base.specs.Common.{cover_mark_of, linux_mark_of}
use Rattle.vms_format_trials.specs.Rows.{Row, sized}

-- Linux's mark of a zone on so many CPUs
abbrev pub linux : (min low high online threshold mark : ℕ) → Row
linux min low high online threshold mark = record {
  given = linux_mark_of (sized 1 min low high) online threshold;
  wanted = mark;
}

-- the mark that covers what CPUs may hide
abbrev pub cover : (min low high by_linux hidden mark : ℕ) → Row
cover min low high by_linux hidden mark = record {
  given = cover_mark_of (sized 1 min low high) by_linux hidden;
  wanted = mark;
}

-- the watermarks, the CPUs, the threshold, and the mark
abbrev pub linux_rows : List Row
linux_rows =
    linux 100 125 150 2 20 190 ∷
    linux 100 140 150 2 20 0 ∷
    linux 100 125 150 1 25 0 ∷
    linux 100 125 150 1 26 176 ∷
    linux 100 125 150 128 1 278 ∷
    linux 100 125 150 2 0 0 ∷
    linux 0 0 0 1 0 0 ∷
    linux 0 0 0 1 1 1 ∷
    linux 0 16000 20000 128 125 0 ∷
    linux 1 16000 20000 128 125 36000 ∷
    linux (2 ^ 42) (2 ^ 42) (2 ^ 42) 128 125 4398046527104 ∷
    -- Linux multiplies in 32 bits, and gets 0 and 2^32 - 128.
    linux 0 100 200 128 (2 ^ 25) 4294967496 ∷
    linux 1 549755813760 (2 ^ 42) 128 4294967295 4947802324864 ∷
    linux 0 549755813760 (2 ^ 42) 128 4294967295 0 ∷
    []

-- the watermarks, Linux's mark, what the CPUs may hide, and the mark
abbrev pub cover_rows : List Row
cover_rows =
    cover 100 125 150 0 25 0 ∷
    cover 100 125 150 0 38 188 ∷
    cover 100 125 150 190 40 190 ∷
    cover 100 125 150 0 0 0 ∷
    cover 100 125 150 0 26 176 ∷
    cover 100 125 150 1 0 150 ∷
    cover 100 125 150 190 0 190 ∷
    cover 100 125 150 189 40 190 ∷
    cover 100 125 150 190 41 191 ∷
    cover 0 0 0 0 0 0 ∷
    cover 0 0 0 0 1 1 ∷
    cover 0 (2 ^ 42) (2 ^ 42) 0 (2 ^ 42) 0 ∷
    cover 0 (2 ^ 42) (2 ^ 42) 0 4398046511105 8796093022209 ∷
    cover 0 0 (2 ^ 42) (2 ^ 62) 0 (2 ^ 62) ∷
    cover 0 0 (2 ^ 42) 0 (2 ^ 62) 4611690416473899008 ∷
    cover 0 0 (2 ^ 42) (2 ^ 62) (2 ^ 62) 4611690416473899008 ∷
    []
