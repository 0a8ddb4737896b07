-- What the percpu counters of a world are.
use Rattle.std.specs.Prelude.{ℕ, List, [], ◌∷◌, ◌++◌, codes, decimal, map}
use Rattle.std.specs.Fmt.{signed_decimal}
use Rattle.std.specs.List.{enumerate_from}
use Rattle.vms_world.specs.Common.{Decl, Header, present_from, count_at, local_at}
use Rattle.vms_plain_pcpu.specs.Common.{total_in}
use Rattle.vms_world.specs.declared.worlds.World.{World}

-- `NAME batch B count C locals L .. sum S` of percpu counter j: the local part of each CPU that is present, and what
-- the shared part and these come to
abbrev pub percpu_counter_words : World → ℕ × Decl → List (List ℕ)
percpu_counter_words w (j, decl) =
    decl.name ∷ codes "batch" ∷ decimal decl.batch ∷ codes "count" ∷ signed_decimal (count_at w.counters j)
    ∷ codes "locals" ∷ map (λ cpu. signed_decimal (local_at w.counters cpu.number j)) (present_from 0 w.pages.cpu)
    ++ codes "sum" ∷ signed_decimal (total_in w.counters w.pages.cpu j) ∷ []

abbrev pub counter_lines : Header → World → List (List (List ℕ))
counter_lines header w = map (percpu_counter_words w) (enumerate_from 0 header.counters)
