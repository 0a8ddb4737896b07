-- The definitions that other crates and this one's proofs cite, passed on from one place. Declares nothing.
pub use Rattle.vms_lane.specs.Spending.{HasGrown, HasRoom, HaveRoom, HaveSpent, spending_of, spent_by_all, sum_of}
pub use Rattle.vms_lane.specs.Ready.{AreReady, AreReadyToControl}
pub use Rattle.vms_lane.specs.Counts.{AreCounted}
pub use Rattle.vms_lane.specs.Controlling.{BuriesTheDead, BuryTheDead, HasControlled, MayControl, SetsTwice}
pub use Rattle.vms_lane.specs.LanePasses.{AreLeftBy, AreReadyFor, HaveSpentAll, MayMakeAct, MayMakeActs, passes_in}
pub use Rattle.vms_lane.specs.PageCalls.{HasCalled, IsCallOfControl, IsCallOfCpu, IsFoldOrLook}
pub use Rattle.vms_lane.specs.Lines.{MakeAct}
pub use Rattle.vms_lane.specs.TableActs.{MakesOnCounters, MakesOnEvents, MakesOnPages}
pub use Rattle.vms_lane.specs.Scripts.{GoesOnWith, MakeLines, acts_in}
