-- The steps of calls that any caller may make, by the CPU that the call is made on.
use Rattle.std.proofs.Common.{Some, rules}
use Rattle.vms_plain_pcpu.proofs.calls.call.Goals as goal

pub returns-in-Compare-clause-made : goal.returns-in-Compare-clause-made
returns-in-Compare-clause-made c = λ facts states batch.
    let made = c.compare.ensures.made (Some c.args.cpu) in search (rules, made)

pub returns-in-Sum-clause-made : goal.returns-in-Sum-clause-made
returns-in-Sum-clause-made c = λ facts states batch.
    let made = c.sum.ensures.made (Some c.args.cpu) in search (rules, made)

pub returns-in-Read-clause-made : goal.returns-in-Read-clause-made
returns-in-Read-clause-made c = λ facts states batch.
    let made = c.read.ensures.made (Some c.args.cpu) in search (rules, made)

pub returns-in-Sync-clause-made : goal.returns-in-Sync-clause-made
returns-in-Sync-clause-made c = λ facts states batch.
    let made = c.sync.ensures.made (Some c.args.cpu) in search (rules, made)
