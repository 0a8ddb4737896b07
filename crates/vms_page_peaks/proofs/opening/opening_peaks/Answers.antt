-- The peaks of one CPU more are set.
use Rattle.std.proofs.Common.{◌≡◌, ◌≢◌, [], ap, arith, sym, ◌∙◌, ⊎_elim}
use Rattle.std.proofs.lemmas.Bool.{cases_eq}
use Rattle.vms_cells.specs.Cells.{at}
use Rattle.vms_core.specs.Common.{peak}
use Rattle.vms_page_peaks.proofs.opening.opening_peaks.Goals as goal

pub loop-number-preserved : goal.loop-number-preserved
loop-number-preserved c =
    let facts = c.args.facts.now in
    let number = c.loop-number.number in
    record {
      cells = c.open_cpu.ensures.cells;
      each = λ d g d_in g_in. ⊎_elim
          (λ (same : d ≡ number).
          ap (λ n. at c.open_cpu.new.peaks n g 0) same
          ∙ c.open_cpu.ensures.here g g_in
          ∙ ap (λ n. peak facts n g []) (sym same))
          (λ (other : d ≢ number).
          c.open_cpu.ensures.others d g g_in other ∙ c.loop-number.invariant.each d g (omega arith) g_in)
          (cases_eq d number);
    }
