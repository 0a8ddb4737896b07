-- What `run` makes of the lines of a phase.
use Rattle.std.specs.Prelude.{List}
use Rattle.vms_world.specs.Common.{Header, Item, TableHistories}
use Rattle.vms_file_order.specs.Common.{MakeInAnyOrder}
use Rattle.vms_replay.specs.Common.{normal_rule, pressure_rule}
use Rattle.vms_world.specs.declared.worlds.World.{World}

-- the histories of a phase are any by which its lanes make their lines, in each table one legal history, by the
-- kernel's rules of thresholds
abbrev pub makes_on_threads : Header → World → List Item → TableHistories → Type 0
makes_on_threads header w items hs = MakeInAnyOrder header pressure_rule normal_rule w items hs
