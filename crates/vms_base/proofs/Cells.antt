-- For other crates too: where the numbers of CPUs stand in one list.
use Rattle.std.proofs.Common.{◌≡◌, ℕ, ◌*◌, ◌/◌, ◌%◌, ◌<◌, arith}
use Rattle.std.proofs.lemmas.Nat.{same_from_place, mul-add-lt, div-mul-add, mod-mul-add}
use Rattle.vms_base.specs.Common.{cell}

module _ (width : ℕ) where
  -- a cell is of one CPU and one thing
  pub cell-injective : (cpu thing other_cpu other_thing : ℕ) → thing < width → other_thing < width
      → cell width cpu thing ≡ cell width other_cpu other_thing → (cpu ≡ other_cpu) × (thing ≡ other_thing)
  cell-injective cpu thing other_cpu other_thing first second same =
      same_from_place cpu thing other_cpu other_thing width first second same

  -- every cell stands in a list of so many things for each CPU
  pub cell-lt : (cpus cpu thing : ℕ) → cpu < cpus → thing < width → cell width cpu thing < cpus * width
  cell-lt cpus cpu thing first second = let h = mul-add-lt cpu width thing cpus first second in omega arith

  -- the CPU and the thing of a cell
  pub cell-cpu : (cpu thing : ℕ) → thing < width → cell width cpu thing / width ≡ cpu
  cell-cpu cpu thing within = div-mul-add cpu width thing within

  pub cell-thing : (cpu thing : ℕ) → thing < width → cell width cpu thing % width ≡ thing
  cell-thing cpu thing within = mod-mul-add cpu width thing within
