-- The lane's pass may begin, and its job stands next.
use Rattle.std.proofs.Common.{◌≡◌, ◌<◌, ℕ, suc, true, List, length, get_or, refl, subst, sym, ap, ◌∙◌, arith}
use Rattle.vms_history.specs.Common.{cell}
use Rattle.vms_group_core.specs.declared.trees.Tree.{Tree}
use Rattle.vms_group_core.specs.Common.{group_count}
use Rattle.vms_group_phase.specs.declared.jobs.LaneJob.{LaneJob}
use Rattle.vms_group_phase.specs.Common.{HaveBegunLanes, has_some, lane_lines}
use Rattle.vms_group_phase.proofs.BegunLanes.{begun-next, first-volume, job-made}
use Rattle.vms_group_phase.proofs.LaneLines.{has-some}
use Rattle.vms_group_phase.proofs.MainPasses.{free-next}
use Rattle.vms_group_phase.proofs.jobs.begin_next.Goals as goal

pub cpu_pass-pass-requires-clause-free : goal.cpu_pass-pass-requires-clause-free
cpu_pass-pass-requires-clause-free c =
    free-next c.args.counted.now.items.now c.args.cpu c.args.main.now.seen c.requires.below.own_events

pub cpu_pass-pass-requires-clause-volume : goal.cpu_pass-pass-requires-clause-volume
cpu_pass-pass-requires-clause-volume c =
    first-volume c.args.table.now c.args.counted.now.items.now c.args.cpu c.args.main.now c.args.jobs.now.items
    c.requires.below c.in_ok-volume.volume c.is_main.ensures.legal
    (c.in_ok-volume.ensures.one_each ∙ c.len.ensures.len ∙ ap (λ (tree : Tree). group_count tree) c.tree.ensures)

pub returns-in_ok-push : goal.returns-in_ok-push
returns-in_ok-push c =
    let table = c.args.table.now in
    let items = c.args.counted.now.items.now in
    let cpu = c.args.cpu in
    let old = c.args.main.now in
    let jobs = c.args.jobs.now.items in
    let new = c.cpu_pass-pass.new.main in
    let pass = c.cpu_pass-pass.result in
    let count = c.get-count.result in
    let job : LaneJob = record { cpu = cpu; pass = pass; items = c.args.counted.now.items; count = count } in
    let lines : count ≡ length (lane_lines cpu.number items) =
    sym (c.get-count.ensures 0) ∙ c.requires.counts.each cpu.number c.requires.cpu in
    let more : 0 < count = omega (arith, c.if-count-gt0.true) in
    let some : has_some (lane_lines cpu.number items) ≡ true =
    has-some (lane_lines cpu.number items) (omega (arith, lines, more)) in
    let many : c.len.result ≡ group_count table.facts.tree =
    c.len.ensures.len ∙ ap (λ (tree : Tree). group_count tree) c.tree.ensures in
    subst (λ (list : List LaneJob). HaveBegunLanes table items (suc cpu.number) new list)
    (sym c.in_ok-push.ensures.items)
    (begun-next table items cpu old jobs c.requires.below new pass.pass c.cpu_pass-pass.ensures.begun job refl some
    (job-made table items cpu old jobs c.requires.below new pass.pass c.cpu_pass-pass.ensures.begun job
    c.args.volumes.now refl refl refl c.requires.cpu
    c.requires.fit
    (λ g g_in.
    ap (λ (v : List ℕ). get_or v g 0) c.cpu_pass-pass.ensures.volume
    ∙ c.in_ok-volume.ensures.each g (omega (arith, many, g_in))
    ∙ ap (λ k. get_or c.args.volumes.now (cell k cpu.number g) 0) many)))
