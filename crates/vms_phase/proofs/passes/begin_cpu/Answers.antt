-- A CPU whose lane is apart from those begun is free and has spent nothing, so its volumes cover what it spent.
use Rattle.std.proofs.Common.{◌≡◌, ℕ, ◌*◌, ◌<◌, length, get_or, sym, ap, subst, ◌∙◌}
use Rattle.vms_file_order.specs.Common.{event_passes, page_passes, pcpu_passes}
use Rattle.vms_tables.specs.Common.{mains_of}
use Rattle.vms_world.specs.Common.{Cpu, volume_in}
use Rattle.vms_phase.proofs.BegunLanes.{free-lane}
use Rattle.vms_phase.proofs.FirstVolumes.{HaveVolumesOf-read, counter-volume, event-volume, page-volume, row-within}
use Rattle.vms_phase.proofs.passes.begin_cpu.Goals as goal

pub volume_of-requires : goal.volume_of-requires
volume_of-requires c =
    row-within c.args.cpu.number c.args.header.now.layout.cpus c.counters.result (length c.args.world.now.volumes.pages)
    c.requires.may.1.online.0
    (c.requires.world.page_volumes.one_each
    ∙ ap (λ n. c.args.header.now.layout.cpus * n) (sym c.counters.ensures.value))

pub volume_of-requires-3 : goal.volume_of-requires-3
volume_of-requires-3 c =
    row-within c.args.cpu.number c.args.header.now.layout.cpus c.len.result (length c.args.world.now.volumes.counters)
    c.requires.may.1.online.0
    (c.requires.world.pcpu_volumes.one_each
    ∙ ap (λ n. c.args.header.now.layout.cpus * n) (sym c.len.ensures.len))

pub cpu_pass-requires-clause-free : goal.cpu_pass-requires-clause-free
cpu_pass-requires-clause-free c =
    let may = c.requires.may.1 in
    free-lane page_passes c.requires.may.0 (Cpu c.args.cpu) c.args.mains.now.page.seen may.once may.apart
    may.begun.pages.own_events

pub cpu_pass-requires-clause-volume : goal.cpu_pass-requires-clause-volume
cpu_pass-requires-clause-volume c =
    page-volume c.args.header.now c.args.tables.now c.args.world.now c.requires.world c.requires.tables
    c.requires.may.0 c.args.cpu (mains_of c.args.mains.now) c.requires.may.1 c.in_ok-pages.pages
    (c.in_ok-pages.ensures.each ∙ c.counters.ensures.value)
    (subst (λ (n : ℕ). (k : ℕ) → k < n → get_or c.in_ok-pages.pages k 0
    ≡ volume_in c.args.world.now.volumes.pages n c.args.cpu.number k) c.counters.ensures.value
    c.in_ok-pages.ensures.same)

pub cpu_pass-requires-2-clause-free : goal.cpu_pass-requires-2-clause-free
cpu_pass-requires-2-clause-free c =
    let may = c.requires.may.1 in
    free-lane event_passes c.requires.may.0 (Cpu c.args.cpu) c.args.mains.now.event.seen may.once may.apart
    may.begun.events.own_events

pub cpu_pass-requires-2-clause-volume : goal.cpu_pass-requires-2-clause-volume
cpu_pass-requires-2-clause-volume c =
    event-volume c.args.header.now c.args.tables.now c.args.world.now c.requires.world c.requires.tables
    c.requires.may.0 c.args.cpu (mains_of c.args.mains.now) c.requires.may.1 c.in_ok-events.events
    c.in_ok-events.ensures.each

pub cpu_pass-requires-3-clause-free : goal.cpu_pass-requires-3-clause-free
cpu_pass-requires-3-clause-free c =
    let may = c.requires.may.1 in
    free-lane pcpu_passes c.requires.may.0 (Cpu c.args.cpu) c.args.mains.now.pcpu.seen may.once may.apart
    may.begun.counters.own_events

pub cpu_pass-requires-3-clause-volume : goal.cpu_pass-requires-3-clause-volume
cpu_pass-requires-3-clause-volume c =
    counter-volume c.args.header.now c.args.tables.now c.args.world.now c.requires.world c.requires.tables
    c.requires.may.0 c.args.cpu (mains_of c.args.mains.now) c.requires.may.1 c.in_ok-counters.counters
    (c.in_ok-counters.ensures.each ∙ c.len.ensures.len)

pub returns-clause-volumes : goal.returns-clause-volumes
returns-clause-volumes c =
    HaveVolumesOf-read c.args.header.now c.args.world.now c.args.cpu.number c.counters.result c.len.result
    c.counters.ensures.value c.len.ensures.len
    (record { page = c.cpu_pass.result; event = c.cpu_pass-2.result; pcpu = c.cpu_pass-3.result })
    c.in_ok-pages.pages c.in_ok-events.events c.in_ok-counters.counters c.cpu_pass.ensures.volume
    c.cpu_pass-2.ensures.volume c.cpu_pass-3.ensures.volume c.in_ok-pages.ensures.each c.in_ok-events.ensures.each
    c.in_ok-counters.ensures.each c.in_ok-pages.ensures.same c.in_ok-events.ensures.same c.in_ok-counters.ensures.same
