-- What the lines before a world say of it.
use Rattle.vms_world.specs.Common.{Header, Start, IsWorldOf}
use Rattle.vms_script.specs.Starts.{IsWithin}
use Rattle.vms_world.specs.declared.worlds.World.{World}
use Rattle.vms_file_order.specs.Burials.{HasStates}
use Rattle.vms_file_order.specs.PhaseVolumes.{CoversVolumes}

-- a start says what the lines after a world of this header begin with: the CPUs are in its states, none has changed
-- anything by more than its volumes, and no volume is past the most
pub record IsStartOf (header : Header) (start : Start) (w : World) : Type 0 where
  pub world : IsWorldOf header w
  pub states : HasStates header start w
  pub volumes : CoversVolumes header start w
  pub within : IsWithin start
