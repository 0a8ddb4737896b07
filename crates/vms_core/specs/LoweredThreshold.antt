-- A machine of one CPU, one zone and one node, and histories in which the CPU's threshold of the zone is lowered.
use Rattle.std.specs.Prelude.{ℕ, pos, [], ◌∷◌, replicate, Some, None}
use Rattle.vms_history.specs.Common.{Diffs, CpuId, GroupId, PlaceId, Online, Normal}
use Rattle.vms_core.specs.declared.states.State.{State}
use Rattle.vms_core.specs.declared.steps.Facts.{Facts}
use Rattle.vms_core.specs.declared.steps.Step.{Step}
use Rattle.vms_core.specs.declared.steps.Step.TheVariants.{LoadT, Take, SetT, SetM, SetA, LoadA, Split}
use Rattle.vms_core.specs.Pages.{History}

-- every number is 0, but for thresholds of 20
abbrev pub state_of_one : State
state_of_one = record {
  place = replicate 16 (pos 0);
  system = replicate 16 (pos 0);
  diff = replicate 16 (pos 0);
  threshold = replicate 2 20;
  mark = replicate 1 0;
  cpu = replicate 1 Online;
  acknowledged = replicate 1 None;
  threshold_sets = replicate 2 0;
  mark_sets = replicate 1 0;
}

-- between `min` and `low` of the zone are 30 pages
abbrev pub one_zone : Facts
one_zone = record {
  layout = record { zones = record { node = 0; kind = Normal } ∷ []; nodes = 0 ∷ []; cpus = 1; positions = 8 };
  sizes = record { managed = 1000; min = 100; low = 130; high = 160 } ∷ [];
  base = state_of_one;
}

abbrev pub cpu : CpuId
cpu = record { number = 0 }

abbrev pub zone : PlaceId
zone = record { number = 0 }

abbrev pub group : GroupId
group = record { number = 0 }

-- pass p makes one more step
abbrev pub next : ℕ → Step → History → History
next p step h = record { caller = p; step = step } ∷ h

-- pass 1 begins, which owns the CPU, and pass 2, the control pass
abbrev pub both_begun : History
both_begun = next 0 (Split 2 None) (next 0 (Split 1 (Some cpu)) [])

-- the control pass lowers the threshold, and the owner loads it
abbrev pub threshold_lowered : History
threshold_lowered = next 2 (SetT cpu zone 5) both_begun

abbrev pub threshold_loaded : History
threshold_loaded = next 1 (LoadT zone 5 1) threshold_lowered

-- the owner takes the zone's differentials and acknowledges the threshold
abbrev pub after_take : Diffs → History
after_take zeros = next 1 (Take cpu group zeros) threshold_loaded

abbrev pub acknowledged : Diffs → History
acknowledged zeros = next 1 (SetA zone 1) (after_take zeros)

-- the control pass finds no acknowledgement, finds that of the newest threshold, or finds it after a newer one was set
abbrev pub found_none : History
found_none = next 2 (LoadA cpu zone None) threshold_lowered

abbrev pub found_newest : Diffs → History
found_newest zeros = next 2 (LoadA cpu zone (Some 1)) (acknowledged zeros)

abbrev pub found_older : Diffs → History
found_older zeros = next 2 (LoadA cpu zone (Some 1)) (next 2 (SetT cpu zone 3) (acknowledged zeros))

-- a threshold that the pages between `min` and `low` don't cover, and a mark that is less than `high` and the peak
abbrev pub uncovered_threshold : History
uncovered_threshold = next 2 (SetT cpu zone 31) both_begun

abbrev pub uncovered_mark : History
uncovered_mark = next 2 (SetM zone 179) both_begun

-- the owner acknowledges with differentials left, or a number that it wasn't told
abbrev pub acknowledged_early : History
acknowledged_early = next 1 (SetA zone 1) threshold_loaded

abbrev pub acknowledged_other : Diffs → History
acknowledged_other zeros = next 1 (SetA zone 0) (after_take zeros)
