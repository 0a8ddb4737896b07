use Rattle.std.proofs.Common.{◌<◌, ◌∙◌, sym, ap, arith}
use Rattle.vms_cursors.specs.StepReadings.{state_in}
use Rattle.vms_cursors.proofs.SnapshotGoes.{look-stops}
use Rattle.vms_cursors.proofs.snapshot_positions.after_looks.Goals as goal

pub returns-in-Some-clause-goes : goal.returns-in-Some-clause-goes
returns-in-Some-clause-goes c =
    let less : c.args.looked.cpus < c.args.layout.now.cpus = omega arith in
    λ k. c.after_state.ensures c.args.layout.now k c.args.step less
    (ap (λ n. state_in n c.args.step) (sym c.next_cpu.ensures) ∙ sym c.in-Some.ensures)

pub returns-in-None-clause-stops : goal.returns-in-None-clause-stops
returns-in-None-clause-stops c =
    let less : c.args.looked.cpus < c.args.layout.now.cpus = omega arith in
    λ k none. look-stops k c.args.step c.args.layout.now.cpus c.args.looked.cpus c.args.looked.sum less
    (ap (λ n. state_in n c.args.step) (sym c.next_cpu.ensures) ∙ sym c.in-None.ensures)
