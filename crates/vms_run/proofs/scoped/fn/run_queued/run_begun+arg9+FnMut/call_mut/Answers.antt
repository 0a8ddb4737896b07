-- What the closure asks holds: the types that threads share may be shared or sent.
use Rattle.std.proofs.Common.{rules}
use denote.Param.Send.{sendable}
use Rattle.vms_run.proofs.scoped.fn.run_queued.run_begun+arg9+FnMut.call_mut.Goals as goal

pub run_begun+arg9-requires : goal.run_begun+arg9-requires
run_begun+arg9-requires g c = search (sendable, rules) depth 20
