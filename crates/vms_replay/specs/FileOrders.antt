-- What `replay` says, whose phases are made in file order.
use Rattle.std.specs.Prelude.{ℕ, List}
use Rattle.vms_world.specs.Common.{Header, Item, TableHistories}
use Rattle.vms_file_order.specs.Common.{IsFileOrderPhase}
use Rattle.vms_stream.specs.Common.{Reading}
use Rattle.vms_stream.specs.declared.statuses.Status.{Status}
use Rattle.vms_world.specs.declared.worlds.World.{World}
use Rattle.vms_replay.specs.KernelRules.{normal_rule, pressure_rule}
use Rattle.vms_replay.specs.MadePhases.{PastPhase}
use Rattle.vms_replay.specs.ReplayAnswers.{SaysReplayed}

-- the histories of a phase are those in file order, by the kernel's rules of thresholds
abbrev pub makes_in_order : Header → World → List Item → TableHistories → Type 0
makes_in_order header w items hs = IsFileOrderPhase header pressure_rule normal_rule w items hs

-- what each status of `replay` says of the bytes taken and written: phases in file order were made
pub record SaysReplay (status : Status) (taken written : List ℕ) (reading : Reading) : Type 0 where
  pub made : List PastPhase
  pub says : SaysReplayed makes_in_order made status taken written reading
