use Rattle.vms_core.proofs.PlainData.{IsPlainBase-holds}
use Rattle.vms_core.proofs.plain.Plain.make.Goals as goal

pub invariant_of-result : goal.invariant_of-result
invariant_of-result c = rw (c.len.ensures.len, c.len-2.ensures.len, c.len-cpus.ensures.len)
    (IsPlainBase-holds c.args.base c.requires c.len.ensures.bound c.len-2.ensures.bound)
