-- A counter more, and all counters at the end.
use Rattle.std.proofs.Common.{◌≡◌, ℕ, ◌+◌, ◌^◌, sym, subst, arith}
use Rattle.vms_world.specs.Common.{IsCounter, counter_count}
use Rattle.vms_hotplug.proofs.Folds.{FoldsBelow, FoldsBelow-more, FoldsBelow-none, FlushesCpu-all, IsSmallState-folded}
use Rattle.vms_hotplug.proofs.Rooms.{IsSmallState-more}
use Rattle.vms_hotplug.proofs.flushing.fold.Goals as goal

pub fold_counter-requires-clause-room : goal.fold_counter-requires-clause-room
fold_counter-requires-clause-room c =
    let shape = c.args.layout.now in
    let m_in : IsCounter shape c.loop-number.number =
    omega (arith, c.loop-number-test.true, c.counters-number-end.ensures.value) in
    IsSmallState-more shape (2 ^ 60 + 2 ^ 59 + 64000) (2 ^ 61) c.loop-number.pages (omega arith)
    (IsSmallState-folded shape c.args.cpu.number c.args.pages.now c.counters-number-end.ensures.is_layout c.requires.cpu
    (2 ^ 60 + 2 ^ 59) c.requires.room c.loop-number.number m_in c.loop-number.pages c.loop-number.invariant)

pub loop-number-init : goal.loop-number-init
loop-number-init c = FoldsBelow-none c.args.layout.now c.args.cpu.number c.args.pages.now
    c.counters-number-end.ensures.is_layout c.requires.cpu c.requires.room.shaped

pub loop-number-preserved : goal.loop-number-preserved
loop-number-preserved c =
    let shape = c.args.layout.now in
    let m_in : IsCounter shape c.loop-number.number =
    omega (arith, c.loop-number-test.true, c.counters-number-end.ensures.value) in
    subst (FoldsBelow shape c.args.cpu.number c.args.pages.now (c.loop-number.number + 1)) (sym c.fold_counter.ensures)
    (FoldsBelow-more shape c.args.cpu.number c.args.pages.now c.counters-number-end.ensures.is_layout c.requires.cpu
    (2 ^ 60 + 2 ^ 59) c.requires.room c.loop-number.number m_in c.loop-number.pages c.loop-number.invariant)

pub returns : goal.returns
returns c =
    let shape = c.args.layout.now in
    let all : c.loop-number.number ≡ counter_count shape = omega (
      arith,
      c.loop-number-test.false,
      c.loop-number.auto.«number-end»,
      c.counters-number-end.ensures.value,
    ) in
    FlushesCpu-all shape c.args.cpu.number c.args.pages.now c.counters-number-end.ensures.is_layout c.requires.cpu
    c.loop-number.pages
    (subst (λ (n : ℕ). FoldsBelow shape c.args.cpu.number c.args.pages.now n c.loop-number.pages) all
    c.loop-number.invariant)
