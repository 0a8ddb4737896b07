use Rattle.std.proofs.Common.{◌≡◌, ◌-◌, ◌∙◌, suc, sym, ap, subst, arith, Some}
use Rattle.vms_plans.specs.Common.{looks_plan}
use Rattle.vms_cursors.specs.Cursors.{GoesOn}
use Rattle.vms_cursors.specs.Snapshots.{snapshot_at}
use Rattle.vms_cursors.specs.declared.snapshot_positions.SnapshotPosition.TheVariants.{Looks}
use Rattle.vms_cursors.proofs.SnapshotGoes.{look-online, look-other}
use Rattle.vms_cursors.proofs.snapshot_positions.after_state.Goals as goal

pub returns-in-Online : goal.returns-in-Online
returns-in-Online c = λ shape k step less told.
    look-online k step shape.cpus c.args.looked.cpus c.args.looked.sum less (told ∙ ap Some c.in-Online.is)

pub returns-in_default : goal.returns-in_default
returns-in_default c = λ shape k step less told.
    let next : suc c.args.looked.cpus ≡ c.pass.result.cpus = omega arith in
    subst (λ n. GoesOn (snapshot_at shape k (Looks c.args.looked)) step
    (looks_plan k n (shape.cpus - n) c.pass.result.sum)) next
    (subst (λ s. GoesOn (snapshot_at shape k (Looks c.args.looked)) step
    (looks_plan k (suc c.args.looked.cpus) (shape.cpus - suc c.args.looked.cpus) s)) (sym c.pass.ensures.sum)
    (look-other k step shape.cpus c.args.looked.cpus c.args.looked.sum less c.args.state c.in_default.not-Online told))
