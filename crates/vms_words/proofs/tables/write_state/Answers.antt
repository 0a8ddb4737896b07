-- The goal was that the rows are those of the last state.
use Rattle.std.proofs.Common.{◌∙◌, ◌<◌, None, sym, subst}
use Rattle.vms_calls.specs.Common.{state_after}
use Rattle.vms_core.proofs.Common.{laws-kept}
use Rattle.vms_words.proofs.LastStates.{row-cleared, place-is, system-is, diff-is, threshold-is, mark-is, cpu-is}
use Rattle.vms_words.proofs.tables.write_state.Goals as goal

pub returns : goal.returns
returns c =
    let facts = c.args.closing.now.facts in
    let h = c.args.closing.now.events in
    let legal = c.requires.legal in
    let blocks = c.args.blocks.now in
    let laid = c.requires.laid in
    let shaped = c.requires.shaped in
    let counts = c.requires.counts in
    let shape = (laws-kept facts h legal).shape in
    λ i. record {
      place = place-is facts h legal blocks laid c.fill_row.new.row (c.fill_row.ensures.len ∙ shaped.place)
          (λ n known d. c.fill_row.ensures.each n (subst (λ m. n < m) (sym shaped.place) known) d) i;
      system = system-is facts h legal blocks laid c.fill_row-2.new.row (c.fill_row-2.ensures.len ∙ shaped.system)
          (λ n known d. c.fill_row-2.ensures.each n (subst (λ m. n < m) (sym shaped.system) known) d) i;
      diff = diff-is facts h legal blocks laid c.args.cpus c.args.groups counts.0 counts.1 c.fill_groups.new.row
          (c.fill_groups.ensures.len ∙ shaped.diff) c.fill_groups.ensures.each i;
      threshold = threshold-is facts h legal blocks laid c.args.cpus c.args.places counts.0 counts.2
          c.fill_rows.new.table (c.fill_rows.ensures.len ∙ shaped.threshold) c.fill_rows.ensures.each i;
      mark = mark-is facts h legal blocks laid c.fill_row-3.new.row (c.fill_row-3.ensures.len ∙ shaped.mark)
          (λ n known d. c.fill_row-3.ensures.each n (subst (λ m. n < m) (sym shaped.mark) known) d) i;
      cpu = cpu-is facts h legal blocks laid c.args.cpus counts.0 c.fill_rows-2.new.table
          (c.fill_rows-2.ensures.len ∙ c.requires.there.one_state_each) c.fill_rows-2.ensures.each i;
      acknowledged = row-cleared None c.clear.new.row (state_after facts h).acknowledged
          (c.clear.ensures.len ∙ shaped.acknowledged ∙ sym shape.acknowledged)
          (λ n within d. c.clear.ensures.each n (subst (λ m. n < m) c.clear.ensures.len within) d) i;
      threshold_sets = row-cleared 0 c.clear-2.new.row (state_after facts h).threshold_sets
          (c.clear-2.ensures.len ∙ shaped.threshold_sets ∙ sym shape.threshold_sets)
          (λ n within d. c.clear-2.ensures.each n (subst (λ m. n < m) c.clear-2.ensures.len within) d) i;
      mark_sets = row-cleared 0 c.clear-3.new.row (state_after facts h).mark_sets
          (c.clear-3.ensures.len ∙ shaped.mark_sets ∙ sym shape.mark_sets)
          (λ n within d. c.clear-3.ensures.each n (subst (λ m. n < m) c.clear-3.ensures.len within) d) i;
    }
