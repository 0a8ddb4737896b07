-- Each cell gets the peak of its CPU and zone.
use Rattle.std.proofs.Common.{◌≡◌, ℕ, ◌+◌, ◌*◌, ◌<◌, ◌≤◌, ◌/◌, ◌%◌, List, length, get_or, [], sym, ap, subst, ◌∙◌}
use Rattle.std.proofs.Common.{arith, ⊎_elim}
use Rattle.std.proofs.lemmas.Bool.{cases_lt}
use Rattle.std.proofs.lemmas.List.{get_or_past}
use Rattle.vms_calls.specs.Common.{cell, most_threshold, opening_peak}
use Rattle.vms_base.proofs.Common.{cell-cpu, cell-lt, cell-thing}
use Rattle.vms_plain_control.specs.Common.{KnowsPeaks}
use Rattle.vms_calls.proofs.Common.{each-pushed, length-pushed}
use Rattle.vms_plain_control.proofs.peaks.Peaks.make.Goals as goal

pub loop-cell-preserved : goal.loop-cell-preserved
loop-cell-preserved c =
    let xs = c.loop-cell.largest.items in
    let y = c.opening_peak.result in
    let n = c.loop-cell.cell in
    let zones = length c.zones-zones.result.now in
    let is = c.in_ok-push.ensures.items in
    record {
      length = ap length is ∙ length-pushed xs y n c.loop-cell.invariant.length;
      each = subst (λ (ys : List ℕ). (i : ℕ) → i < n + 1 → get_or ys i 0
          ≡ opening_peak c.args.layout.now c.args.state.now (i / zones) (i % zones)) (sym is)
          (each-pushed xs y n c.loop-cell.invariant.length
          (λ i v. v ≡ opening_peak c.args.layout.now c.args.state.now (i / zones) (i % zones))
          c.loop-cell.invariant.each c.opening_peak.ensures.value);
      most = subst (λ (ys : List ℕ). (i : ℕ) → i < n + 1 → get_or ys i 0 ≤ most_threshold) (sym is)
          (each-pushed xs y n c.loop-cell.invariant.length (λ i v. v ≤ most_threshold) c.loop-cell.invariant.most
          c.opening_peak.ensures.most);
    }

pub invariant_of-result : goal.invariant_of-result
invariant_of-result c n = subst (λ (ys : List ℕ). get_or ys n 0 ≤ most_threshold) (sym c.make.ensures)
    (⊎_elim
    (λ (within : n < c.loop-cell.cell). c.loop-cell.invariant.most n within)
    (λ (past : c.loop-cell.cell ≤ n). rw (get_or_past c.loop-cell.largest.items n 0
    (omega (arith, past, c.loop-cell.invariant.length))) (omega arith))
    (cases_lt n c.loop-cell.cell))

pub returns : goal.returns
returns c sizes =
    let shape = c.args.layout.now in
    let s = c.args.state.now in
    let zones = length c.zones-zones.result.now in
    let same : zones ≡ length shape.zones = ap length c.zones-zones.ensures.value in
    let cells : c.cpus.result * zones ≡ shape.cpus * length shape.zones =
    ap (λ (m : ℕ). m * zones) c.cpus.ensures.value ∙ ap (λ (m : ℕ). shape.cpus * m) same in
    let all : c.loop-cell.cell ≡ shape.cpus * length shape.zones =
    omega (arith, c.loop-cell-test.false, c.loop-cell.auto.«cell-end», cells) in
    subst (KnowsPeaks (record { layout = shape; sizes = sizes; base = s }) []) (sym c.make.ensures) (record {
      full = c.loop-cell.invariant.length ∙ all;
      each = λ d g d_in zone.
          let at = cell (length shape.zones) d g in
          c.loop-cell.invariant.each at (omega (arith, cell-lt (length shape.zones) shape.cpus d g d_in zone, all))
          ∙ ap (λ (m : ℕ). opening_peak shape s (at / m) (at % m)) same
          ∙ ap (λ (m : ℕ). opening_peak shape s m (at % length shape.zones)) (cell-cpu (length shape.zones) d g zone)
          ∙ ap (opening_peak shape s d) (cell-thing (length shape.zones) d g zone);
    })
