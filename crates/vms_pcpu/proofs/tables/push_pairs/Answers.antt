-- The goals were that the rows are those of the counters so far.
use Rattle.std.proofs.Common.{sym, ◌∙◌, rules}
use Rattle.vms_rows.proofs.Common.{rows_of-none}
use Rattle.vms_pcpu.proofs.OpeningWords.{free_pair, pairs-more}
use Rattle.vms_pcpu.proofs.tables.push_pairs.Goals as goal

pub loop-count-init : goal.loop-count-init
loop-count-init c = c.requires ∙ sym (rows_of-none 2 (λ j k. free_pair c.args.counts.now j k))

pub loop-count-preserved : goal.loop-count-preserved
loop-count-preserved c =
    pairs-more c.args.counts.now c.loop-count.count-index c.encode.result c.loop-count.words.items c.push_row.new.words.items
    c.loop-count.invariant (search rules) c.in_ok-push_row.ensures
