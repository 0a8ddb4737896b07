-- What the closure asks holds: the types that threads share may be shared or sent.
use Rattle.std.proofs.Common.{rules}
use denote.Param.Send.{sendable}
use Rattle.vms_run.proofs.scoped.fn.run_scoped.work+FnMut.call_mut.Goals as goal

pub work-requires : goal.work-requires
work-requires g c = search (sendable, rules) depth 20
