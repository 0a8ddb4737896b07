-- Lists that are given by what stands at each place.
use Rattle.std.specs.Prelude.{ℕ, ◌*◌, ◌/◌, ◌%◌, List, map}
use Rattle.std.specs.List.{range_with_len}

-- a list by CPU and then group, with f c g for CPU c and group g
abbrev pub listed_by_cpu : {X : Type 0} → (ℕ → ℕ → X) → (cpus groups : ℕ) → List X
listed_by_cpu f cpus groups = map (λ n. f (n / groups) (n % groups)) (range_with_len 0 (cpus * groups))
