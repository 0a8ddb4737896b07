-- The sum with the threshold that is set.
use Rattle.std.proofs.Common.{◌≡◌, ◌+◌, ◌-◌, ◌∷◌, arith}
use Rattle.vms_history.proofs.Common.{base_can_begin}
use Rattle.vms_core.specs.declared.steps.Step.TheVariants.{SetT}
use Rattle.vms_core.specs.Common.{pages, peak_sum}
use Rattle.vms_page_peaks.proofs.RaisedSums.{part, peak_sum-threshold, small}
use Rattle.vms_page_peaks.proofs.peaks.PagePeaks.covers_threshold.Goals as goal

pub get-requires-2 : goal.get-requires-2
get-requires-2 c =
    let base = base_can_begin pages c.args.facts.now c.requires.kept.0 c.requires.kept.1 in
    let one_each = base.one_size_each in
    let zone = c.requires.zone in
    omega arith

pub overflow_sub-hidden : goal.overflow_sub-hidden
overflow_sub-hidden c =
    let is_part = rw c.requires.kept.3 at (part c.args.facts.now c.requires.kept.0 c.args.self.now c.requires.kept.2
    c.args.cpu.number c.args.zone.number c.requires.cpu c.requires.zone) in
    omega (arith, is_part, c.get-peak.ensures 0, c.get.ensures 0)

pub overflow_add-hidden : goal.overflow_add-hidden
overflow_add-hidden c =
    let few = small c.args.facts.now c.requires.kept.0 c.args.self.now c.requires.kept.2 c.requires.kept.1
    c.args.zone.number c.requires.zone in
    omega (arith, few, c.get.ensures 0, c.max.ensures)

pub returns : goal.returns
returns c = λ h p legal keeps online.
    let facts = c.args.facts.now in
    let is_part = rw online at (part facts h c.args.self.now keeps c.args.cpu.number c.args.zone.number c.requires.cpu
    c.requires.zone) in
    let sum : c.get.result - c.get-peak.result + c.max.result
    ≡ peak_sum facts c.args.zone.number (record { caller = p; step = SetT c.args.cpu c.args.zone c.args.t } ∷ h) =
    let raised = peak_sum-threshold facts h c.args.self.now keeps p c.args.cpu c.args.zone c.args.t c.requires.cpu
    c.requires.zone online in
    omega (arith, raised, is_part, c.get-peak.ensures 0, c.get.ensures 0, c.max.ensures) in
    rw (← sum, c.get-2.ensures (record { managed = 0; min = 0; low = 0; high = 0 })) c.covers.ensures
