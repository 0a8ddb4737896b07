-- A CPU's volumes stand in the row of all.
use Rattle.std.proofs.Common.{◌*◌, length, ap, subst, sym, ◌∙◌}
use Rattle.vms_world.specs.Common.{Cpu}
use Rattle.vms_phase.specs.Common.{HasOwn}
use Rattle.vms_phase.proofs.FirstVolumes.{row-within}
use Rattle.vms_phase.proofs.volumes.keep_lane.Goals as goal

pub keep_row-requires-clause-within : goal.keep_row-requires-clause-within
keep_row-requires-clause-within c =
    let header = c.args.header.now in
    let has = subst (λ vs. HasOwn header (Cpu c.in-Cpu.cpu) vs) c.in-Some.is
    (subst (λ lane. HasOwn header lane c.args.lane.now.volumes) c.in-Cpu.is c.requires.own) in
    row-within c.in-Cpu.cpu.number header.layout.cpus c.counters-counters.result (length c.args.volumes.now.pages) has.0
    (c.requires.all.pages ∙ ap (λ n. header.layout.cpus * n) (sym c.counters-counters.ensures.value))
