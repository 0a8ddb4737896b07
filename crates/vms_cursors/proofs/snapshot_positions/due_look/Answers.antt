use Rattle.std.proofs.Common.{◌<◌, ◌-◌, ℕ, sym, subst, arith}
use Rattle.vms_plans.specs.Common.{looks_plan}
use Rattle.vms_plans.specs.declared.due_steps.DueStep.TheVariants.{LoadsState}
use Rattle.vms_cursors.specs.Cursors.{IsDue}
use Rattle.vms_cursors.proofs.SnapshotGoes.{looks-due}
use Rattle.vms_cursors.proofs.snapshot_positions.due_look.Goals as goal

pub returns-then-looked-cpus-clause-due : goal.returns-then-looked-cpus-clause-due
returns-then-looked-cpus-clause-due c =
    let less : c.args.looked.cpus < c.args.layout.now.cpus = omega arith in
    λ k. subst (λ (n : ℕ).
    IsDue (looks_plan k c.args.looked.cpus (c.args.layout.now.cpus - c.args.looked.cpus) c.args.looked.sum)
    (LoadsState (record { number = n }))) (sym c.next_cpu.ensures)
    (looks-due k c.args.layout.now.cpus c.args.looked.cpus c.args.looked.sum less)
