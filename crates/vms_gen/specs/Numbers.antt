-- The numbers that words give.
use Rattle.std.specs.Prelude.{ℕ, ◌≤◌, List, [], ◌∷◌, codes, bytes_eq, if◌then◌else◌, Option, None, option_and_then}
use Rattle.std.specs.Prelude.{option_map}
use Rattle.vms_text.specs.Common.{number_within, unsigned_of}
use Rattle.vms_gen.specs.Texts.{IsCpuCount}
use Rattle.vms_gen.specs.declared.numbers.Numbers.{Numbers}

-- the numbers that three words spell: a seed of 64 bits, 1 to 64 CPUs, 1 to 900,000 lines
abbrev pub numbers_spelled : List ℕ → List ℕ → List ℕ → Option Numbers
numbers_spelled seed cpus lines =
    option_and_then (λ x.
    option_and_then (λ c.
    option_map (λ n. record { seed = x; cpus = c; lines = n }) (number_within 1 900000 lines))
    (number_within 1 64 cpus))
    (unsigned_of seed)

-- the numbers that words give: `gen`, and the three of them
abbrev pub numbers_named : List (List ℕ) → Option Numbers
numbers_named (word ∷ seed ∷ cpus ∷ lines ∷ []) =
    if bytes_eq word (codes "gen") then numbers_spelled seed cpus lines else None
numbers_named _ = None

-- numbers that a text may be made from
pub record InRange (numbers : Numbers) : Type 0 where
  pub cpus : IsCpuCount numbers.cpus
  pub some_lines : 1 ≤ numbers.lines
  pub most_lines : numbers.lines ≤ 900000
