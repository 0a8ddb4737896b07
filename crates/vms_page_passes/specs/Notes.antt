-- What a pass did in a place of its own CPU since it last loaded the own threshold.
use Rattle.std.specs.Prelude.{ℕ, ◌-◌, Bool, false, ◌||◌, true, nat_eq, List, option_map, Option}
use Rattle.vms_history.specs.Common.{CpuId, Shape, counter_at, first_of_group, group_of, place_of}
use Rattle.vms_history.specs.declared.events.Event.{Event}
use Rattle.vms_cells.specs.declared.stamps.Stamped.{Stamped}
use Rattle.vms_cells.specs.Cells.{Cells, at, with_cell}
use Rattle.vms_core.specs.declared.steps.Step.{Step}
use Rattle.vms_core.specs.Common.{has_put, loaded, took}
use Rattle.vms_page_passes.specs.declared.notes.Loaded.{Loaded}

-- the groups of a place's first counter and of its last one
abbrev pub first_group : Shape → ℕ → ℕ
first_group shape g = group_of (counter_at shape g 0)

abbrev pub last_group : Shape → ℕ → ℕ
last_group shape g = group_of (counter_at shape g (shape.positions - 1))

-- what the owner of a CPU loaded of a place and did there since, by its own events
abbrev pub noted : Shape → CpuId → ℕ → List (Event Step) → Option Loaded
noted shape c g mine = option_map (λ told. record {
  t = told.t;
  number = told.number;
  put = has_put shape g mine;
  took_first = took c g (first_group shape g) mine;
  took_last = took c g (last_group shape g) mine;
}) (loaded g mine)

-- a load, after which nothing was done yet
abbrev pub loading : ℕ → ℕ → Loaded
loading t number = record { t = t; number = number; put = false; took_first = false; took_last = false }

-- a note that no pass has written
abbrev pub unloaded : Stamped Loaded
unloaded = record { writer = 0; value = loading 0 0 }

-- the note after a put in the place
abbrev pub putting : Stamped Loaded → Stamped Loaded
putting cell = record cell { value = record cell.value { put = true } }

-- a take of the place's first group, of its last one, or of one that is both
abbrev pub taking : Bool → Bool → Loaded → Loaded
taking first last note =
    record note { took_first = first || note.took_first; took_last = last || note.took_last }

-- the note of a group's place after a take of the group
abbrev pub taking_of : Shape → ℕ → Stamped Loaded → Stamped Loaded
taking_of shape j cell =
    let g = place_of shape (first_of_group j) in
    record cell { value = taking (nat_eq j (first_group shape g)) (nat_eq j (last_group shape g)) cell.value }

-- the notes of a CPU's places after that
abbrev pub with_taken : Shape → ℕ → ℕ → Cells (Stamped Loaded) → Cells (Stamped Loaded)
with_taken shape slot j cells =
    let g = place_of shape (first_of_group j) in
    with_cell cells slot g (taking_of shape j (at cells slot g unloaded))
