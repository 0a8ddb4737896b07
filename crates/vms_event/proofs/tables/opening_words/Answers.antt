-- The goals were that the rows are those of the base.
use Rattle.std.proofs.Common.{sym, ◌∙◌, rules}
use Rattle.vms_event_core.specs.Common.{event_count, word_at}
use Rattle.vms_rows.proofs.Common.{rows_of-none}
use Rattle.vms_event.proofs.OpeningWords.{opening-more}
use Rattle.vms_event.proofs.tables.opening_words.Goals as goal

pub loop-cpu-init : goal.loop-cpu-init
loop-cpu-init c =
    c.in_ok-words.ensures.items ∙ sym (rows_of-none event_count (λ d k. word_at c.args.base.now d k))

pub loop-cpu-preserved : goal.loop-cpu-preserved
loop-cpu-preserved c =
    opening-more c.args.base.now c.args.layout.now.cpus c.loop-cpu.cpu c.as_slice-counted.result.now
    c.loop-cpu.words.items c.push_row.new.words.items c.requires.shaped (search rules) c.as_slice-counted.ensures
    c.loop-cpu.invariant c.in_ok-push_row.ensures
