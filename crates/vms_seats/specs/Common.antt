-- The definitions that other crates and this one's proofs cite, passed on from one place. Declares nothing.
pub use Rattle.vms_seats.specs.Passes.{IsFrom, IsLive, IsMain, Pass, Phase, Shared}
pub use Rattle.vms_seats.specs.Steps.{Made, MadeOne, MakesStep, MayStep, NextStep}
pub use Rattle.vms_seats.specs.MainSteps.{HasBegun, HasEnded, MainMakes, MayBeginPass, MayEndPass, SeesMore}
pub use Rattle.vms_seats.specs.MainSteps.{next_number}
pub use Rattle.vms_seats.specs.Views.{Holds, both_held, first_alone, first_pass, holding, opening_view, second_alone}
pub use Rattle.vms_seats.specs.Views.{spent_view, witness_of}
pub use Rattle.vms_seats.specs.Plays.{Advances, Divides, Unites}
pub use Rattle.vms_seats.specs.Rule.{AllFit, FitsHistory, Keeps, OneSeatEach}
pub use Rattle.vms_seats.specs.Seats.{IsClosing, IsMainSeat, IsWorker, main_of, worker_of}
