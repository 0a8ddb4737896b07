-- Lists that are given by what stands at each place.
use Rattle.std.specs.Prelude.{ℕ, ◌*◌, ◌/◌, ◌%◌, List, map}
use Rattle.std.specs.List.{range_with_len}

-- f 0, f 1, up to f (n - 1)
abbrev pub listed : {X : Type 0} → (ℕ → X) → ℕ → List X
listed f n = map f (range_with_len 0 n)

-- a list by CPU and then thing, with f c k for CPU c and thing k
abbrev pub listed_by_cpu : {X : Type 0} → (ℕ → ℕ → X) → ℕ → ℕ → List X
listed_by_cpu f cpus width = listed (λ n. f (n / width) (n % width)) (cpus * width)
