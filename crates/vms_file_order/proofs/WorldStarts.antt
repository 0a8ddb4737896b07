-- For other crates too: where the lines of a run begin, and what phases of lines that fit make of it.
use Rattle.std.proofs.Common.{◌≡◌, ℕ, ◌*◌, List, length, map, arith}
use Rattle.vms_world.specs.Common.{Header, ZoneSize, IsHeader, cell, counter_count, GivesThresholds, event_count, Fits}
use Rattle.vms_world.specs.Common.{Start, first_start, start_at_end, line_of, Item, started, IsWorldPhase, FitVolumes}
use Rattle.vms_world.specs.Common.{TableHistories, LeavesNothing, SpendTheirLines, left_by, AreAnswers, event_volume}
use Rattle.vms_world.specs.Common.{page_volume, pcpu_volume}
use Rattle.vms_core.proofs.Common.{get_or-copies}
use Rattle.vms_script.proofs.Common.{FittingScriptsStayWithin-holds, IsWithin-first}
use Rattle.vms_world.specs.declared.worlds.World.{World}
use Rattle.vms_world.proofs.Common.{IsWorldOf-start, online-bare, IsWorldOf-left_by}
use Rattle.vms_file_order.specs.Common.{MakeInAnyOrder, IsStartOf}
use Rattle.vms_file_order.proofs.CpuStates.{HasStates-made}
use Rattle.vms_file_order.proofs.PhaseVolumes.{CoversVolumes-left, FitVolumes-fitting}
use Rattle.vms_file_order.proofs.PhasesInOrder.{IsWorldPhase-made}

-- the first start is one of the world that a run begins with
pub IsStartOf-first : (header : Header) → IsHeader header → (answers : ZoneSize → ℕ → ℕ → Type 0)
    → GivesThresholds answers → (zones : List ℕ) → AreAnswers header answers header.layout.cpus zones
    → IsStartOf header first_start (started header zones)
IsStartOf-first header valid answers gives zones are = record {
  world = IsWorldOf-start header valid answers gives zones are;
  states = λ c c_in. online-bare header valid c c_in;
  volumes = record {
    pages = λ c k c_in k_in.
        let none : page_volume header (started header zones) c k ≡ 0 =
        get_or-copies {X = ℕ} (header.layout.cpus * counter_count header.layout)
        (cell (counter_count header.layout) c k) 0 in omega (arith, none);
    events = λ c k c_in k_in.
        let none : event_volume (started header zones) c k ≡ 0 =
        get_or-copies {X = ℕ} (header.layout.cpus * event_count) (cell event_count c k) 0 in omega (arith, none);
    counters = λ c j c_in j_in.
        let none : pcpu_volume header (started header zones) c j ≡ 0 =
        get_or-copies {X = ℕ} (header.layout.cpus * length header.counters) (cell (length header.counters) c j) 0 in
        omega (arith, none);
  };
  within = IsWithin-first;
}

-- a phase of lines that fit
module _ (pressure normal : ZoneSize → ℕ → ℕ → Type 0) (header : Header) (start : Start) (w : World)
    (is : IsStartOf header start w) (items : List Item) (fits : Fits header start items) (hs : TableHistories)
    (phase : MakeInAnyOrder header pressure normal w items hs) (spend : SpendTheirLines header items hs)
    (nothing : LeavesNothing header (left_by header w items hs)) where
  fit : FitVolumes header w items
  fit = FitVolumes-fitting header w items start is.volumes fits is.within

  pub IsWorldPhase-fitting : IsWorldPhase header pressure normal w items hs (left_by header w items hs)
  IsWorldPhase-fitting = IsWorldPhase-made pressure normal header w items hs phase spend fit nothing

  pub IsStartOf-left : IsStartOf header (start_at_end start (map line_of items)) (left_by header w items hs)
  IsStartOf-left = record {
    world = IsWorldOf-left_by header w items hs is.world phase.complete spend fit nothing;
    states = HasStates-made pressure normal header w start is.states items fits.known hs phase;
    volumes = CoversVolumes-left header w items hs start is.volumes is.world phase.complete;
    within = FittingScriptsStayWithin-holds header start items fits is.within;
  }
