-- The definitions that other crates and this one's proofs cite, passed on from one place. Declares nothing.
pub use Rattle.vms_plain_pcpu.specs.StateSteps.{IsByState-percpu, TellsNumber, effect_by, percpu_by_state}
pub use Rattle.vms_plain_pcpu.specs.FreeLocks.{LeadsAlone, MissesNone, under_free_locks}
pub use Rattle.vms_plain_pcpu.specs.Numbers.{HasLocals, HasRoomFor, MovesLocals, goes_unlocked, locals_over, total_in}
pub use Rattle.vms_plain_pcpu.specs.Numbers.{unknown_in, with_added, with_local_added, with_local_moved}
pub use Rattle.vms_plain_pcpu.specs.Answers.{AnswersByLimit, ComparesTotal}
pub use Rattle.vms_plain_pcpu.specs.PlainCalls.{AnswersCall, HasEachLocal, HasLocalsForCall, HasRoomForCall, with_call}
