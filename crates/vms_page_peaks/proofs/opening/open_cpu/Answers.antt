-- A cell is written, and the others stay.
use Rattle.std.proofs.Common.{◌<◌, [], ap, arith, eq-eqb, eqb-true, length, ne_eqb, nat_eq, refl, sym, ◌∙◌}
use Rattle.std.proofs.lemmas.Bool.{eqb-false, false≢true}
use Rattle.vms_cells.specs.Cells.{at}
use Rattle.vms_cells.proofs.WrittenCells.{HasCells-with_cell, at-with_cell}
use Rattle.vms_core.specs.Common.{peak}
use Rattle.vms_page_peaks.proofs.Choices.{if_both}
use Rattle.vms_page_peaks.proofs.opening.open_cpu.Goals as goal

pub loop-number-preserved : goal.loop-number-preserved
loop-number-preserved c =
    let facts = c.args.facts.now in
    let cpu = c.args.cpu.number in
    let zone = c.loop-number.number in
    let has = c.loop-number.invariant.cells in
    let zone_in : zone < length facts.layout.zones = omega (arith, ap length c.zones.ensures.value) in
    let v = c.opening_peak-peak.result in
    record {
      cells = rw c.set.ensures
          (HasCells-with_cell facts.layout.cpus (length facts.layout.zones) c.loop-number.peaks has cpu zone
          c.requires.cpu zone_in v);
      here = λ g g_in.
          rw (
            c.set.ensures,
            at-with_cell facts.layout.cpus (length facts.layout.zones) c.loop-number.peaks has cpu zone c.requires.cpu
                zone_in v cpu g 0 (omega arith),
          )
          (if_both (nat_eq cpu cpu) (nat_eq zone g) v (at c.loop-number.peaks cpu g 0) (peak facts cpu g [])
          (λ row column.
          c.opening_peak-peak.ensures ∙ ap (λ n. peak facts cpu n []) (eqb-true zone g column))
          (λ row. absurd (false≢true (sym row ∙ eq-eqb cpu cpu refl)))
          (λ column. let other = eqb-false zone g column in c.loop-number.invariant.here g (omega arith)));
      others = λ d g g_in other.
          rw (
            c.set.ensures,
            at-with_cell facts.layout.cpus (length facts.layout.zones) c.loop-number.peaks has cpu zone c.requires.cpu
                zone_in v d g 0 g_in,
            ne_eqb cpu d (λ same. other (sym same)),
          )
          (c.loop-number.invariant.others d g g_in other);
    }
