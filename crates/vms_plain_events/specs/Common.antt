-- The definitions that other crates and this one's proofs cite, passed on from one place. Declares nothing.
pub use Rattle.vms_plain_events.specs.StateSteps.{IsByState-events, events_by_state}
pub use Rattle.vms_plain_events.specs.PlainWords.{HasWords, MovesWords, with_moved}
pub use Rattle.vms_plain_events.specs.PlainCalls.{FitsCall, MakesCall}
