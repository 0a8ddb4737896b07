-- A CPU more, and all CPUs at the end.
use Rattle.std.proofs.Common.{◌≡◌, ℕ, ◌+◌, ◌*◌, ◌^◌, ◌<◌, sym, ap, subst, ◌∙◌, arith}
use Rattle.vms_world.specs.Common.{is_online, IsCpu, State, cpu_at}
use Rattle.vms_hotplug.proofs.FlushedCpus.{FlushesBelow, FlushesBelow-kept, FlushesBelow-more, FlushesBelow-none}
use Rattle.vms_hotplug.proofs.FlushedCpus.{flushed-all}
use Rattle.vms_hotplug.proofs.Rooms.{IsSmallState-more}
use Rattle.vms_hotplug.proofs.flushing.flush_pages.Goals as goal
use Rattle.vms_hotplug.proofs.flushing.flush_pages.Goals.{then-is_online, else-is_online}

pub fold-requires-clause-room : goal.fold-requires-clause-room
fold-requires-clause-room c =
    let few : c.loop-number.number < 128 = omega (
      arith,
      c.loop-number-test.true,
      c.cpus-number-end.ensures.value,
      c.cpus-number-end.ensures.is_layout.cpus_most,
    ) in
    IsSmallState-more c.args.layout.now (2 ^ 60 + c.loop-number.number * 64000) (2 ^ 60 + 2 ^ 59) c.loop-number.pages
    (omega arith) c.loop-number.invariant.room

pub loop-number-init : goal.loop-number-init
loop-number-init c = FlushesBelow-none c.args.layout.now c.args.pages.now c.requires

pub loop-number-preserved : goal.loop-number-preserved
loop-number-preserved c =
    let shape = c.args.layout.now in
    let s = c.args.pages.now in
    let n = c.loop-number.number in
    let n_in : IsCpu shape n = omega (arith, c.loop-number-test.true, c.cpus-number-end.ensures.value) in
    let told : is_online (cpu_at s n) ≡ c.is_online.result =
    ap is_online (sym (ap (λ (x : State). cpu_at x n) c.loop-number.invariant.rest) ∙ sym c.cpu_at.ensures)
    ∙ sym c.is_online.ensures in
    elim c.if-is_online.branch [
      | then-is_online w ↦
          subst (FlushesBelow shape s (n + 1)) (sym w.pages-is)
          (FlushesBelow-more shape s n c.loop-number.pages c.loop-number.invariant
          c.cpus-number-end.ensures.is_layout n_in w.fold.new.pages w.fold.ensures (told ∙ w.if-is_online.true))
      | else-is_online w ↦
          subst (FlushesBelow shape s (n + 1)) (sym w.pages-is)
          (FlushesBelow-kept shape s n c.loop-number.pages c.loop-number.invariant (told ∙ w.if-is_online.false))
    ]

pub returns : goal.returns
returns c =
    let shape = c.args.layout.now in
    let all : c.loop-number.number ≡ shape.cpus = omega (
      arith,
      c.loop-number-test.false,
      c.loop-number.auto.«number-end»,
      c.cpus-number-end.ensures.value,
    ) in
    flushed-all shape c.args.pages.now c.loop-number.pages c.requires.shaped
    (subst (λ (n : ℕ). FlushesBelow shape c.args.pages.now n c.loop-number.pages) all c.loop-number.invariant)
