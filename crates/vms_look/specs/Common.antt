-- The definitions that other crates and this one's proofs cite, passed on from one place. Declares nothing.
pub use Rattle.vms_look.specs.SnapshotTotals.{SumsTruly}
pub use Rattle.vms_look.specs.Looking.{HasFree, HasLooked, found_at}
pub use Rattle.vms_look.specs.Slack.{BoundsByMarks, IsTold, ValuesTell, positive_carried, slack_at, slack_of}
pub use Rattle.vms_look.specs.Truth.{LoadsTruly, MarksKeepHigh, NoMarksKeepLimit, SaysTruly, SystemLoadsTruly}
pub use Rattle.vms_look.specs.Truth.{TellsTruly, free_value}
