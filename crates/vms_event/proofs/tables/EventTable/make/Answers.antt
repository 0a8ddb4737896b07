-- The goals were that there is a word, and that the table is for its layout.
use Rattle.std.proofs.Common.{◌*◌, ◌<◌, ◌∙◌, length, ap, sym, subst, rules}
use Rattle.vms_history.specs.Common.{Shape}
use Rattle.vms_event_core.specs.declared.steps.EventFacts.{EventFacts}
use Rattle.vms_event_core.specs.Common.{IsBase, event_count, word_at}
use Rattle.vms_rows.proofs.Common.{length-rows_of}
use Rattle.vms_rows.specs.Common.{row_width}
use Rattle.vms_event.proofs.OpeningWords.{rows-some}
use Rattle.vms_event.proofs.tables.EventTable.make.Goals as goal

pub make-requires-clause-some : goal.make-requires-clause-some
make-requires-clause-some c =
    subst (λ words. 0 < length words) (sym (c.as_slice-2.ensures.value ∙ c.in_ok-first.ensures))
    (rows-some c.args.layout.now.cpus c.requires.layout.cpus_least c.args.base.now)

pub invariant_of-result : goal.invariant_of-result
invariant_of-result c =
    let facts : EventFacts = record {
      layout = c.copied.result;
      cpus = c.in_ok-from_slice.field-0;
      base = record { words = c.in_ok-from_slice-2.field-0 };
    } in
    let base : IsBase facts = search rules in
    let made = c.in_ok-words.ensures.words in
    record {
      base = subst IsBase (sym made.0) base;
      same_layout = ap (λ (f : EventFacts). f.layout) made.0;
      same_cpus = ap (λ (f : EventFacts). f.cpus) made.0;
      count = made.1 ∙ ap length (c.as_slice-2.ensures.value ∙ c.in_ok-first.ensures)
          ∙ length-rows_of event_count (λ d k. word_at c.args.base.now d k) c.args.layout.now.cpus
          ∙ ap (λ (shape : Shape). shape.cpus * row_width event_count) (sym (ap (λ (f : EventFacts). f.layout) made.0 ∙ c.copied.ensures));
    }
