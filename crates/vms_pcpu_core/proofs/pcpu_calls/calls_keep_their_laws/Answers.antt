-- Each law by its lemma.
use Rattle.vms_pcpu_core.proofs.PcpuCalls.{MakesCalls-hold, added-within, adds-call, tells-call}
use Rattle.vms_pcpu_core.proofs.pcpu_calls.calls_keep_their_laws.Goals as goal

pub returns-clause-may : goal.returns-clause-may
returns-clause-may c = MakesCalls-hold

pub returns-clause-adds : goal.returns-clause-adds
returns-clause-adds c = adds-call

pub returns-clause-spends : goal.returns-clause-spends
returns-clause-spends c = added-within

pub returns-clause-tells : goal.returns-clause-tells
returns-clause-tells c = tells-call
