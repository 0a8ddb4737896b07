-- The definitions that other crates and this one's proofs cite, passed on from one place. Declares nothing.
pub use Rattle.vms_file_order.specs.LanePasses.{MayOwnEach, PassSteps, StandOnce, begins_from, closing_of, ends_from}
pub use Rattle.vms_file_order.specs.LanePasses.{opening_of, pass_of}
pub use Rattle.vms_file_order.specs.FileOrder.{Follow, GoesOnWithLine, HasPass, IsFileOrder, StandsOpen}
pub use Rattle.vms_file_order.specs.FileOrder.Follow.{line, none}
pub use Rattle.vms_file_order.specs.Tables.{FindsLockFree, MeetsNobody, event_makes, event_passes, page_passes}
pub use Rattle.vms_file_order.specs.Tables.{pcpu_makes, pcpu_passes}
pub use Rattle.vms_file_order.specs.FileOrderPhases.{IsFileOrderPhase, KeepAllLaws}
pub use Rattle.vms_file_order.specs.MadePhases.{MakeInAnyOrder}
pub use Rattle.vms_file_order.specs.PhaseVolumes.{CoversVolumes}
pub use Rattle.vms_file_order.specs.Burials.{AbsentAreBuried, HasStates}
pub use Rattle.vms_file_order.specs.OpenPhases.{EndsIn, GoesOnInTables, IsOpenPhase, TableStates, closings_of}
pub use Rattle.vms_file_order.specs.OpenPhases.{histories_with_line, opening_states, openings_of}
pub use Rattle.vms_file_order.specs.WorldStarts.{IsStartOf}
pub use Rattle.vms_file_order.specs.FittingLines.{FitsBeside, MayFollow}
