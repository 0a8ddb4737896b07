-- The goals were that the facts are those of a base, that there is a word, and that the table is for its facts.
use Rattle.std.proofs.Common.{◌≡◌, length, sym, ap, ◌∙◌, subst, arith, count_by}
use Rattle.vms_history.specs.Common.{is_present}
use Rattle.vms_pcpu_core.specs.declared.steps.PcpuFacts.{PcpuFacts}
use Rattle.vms_pcpu_core.specs.Common.{IsBase}
use Rattle.vms_pcpu.specs.Common.{word_count}
use Rattle.vms_pcpu.proofs.OpeningWords.{opening-length}
use Rattle.vms_pcpu.proofs.tables.PcpuTable.make.Goals as goal

pub opening_words-requires : goal.opening_words-requires
opening_words-requires c = subst IsBase (sym c.in_ok-facts.ensures) c.requires

pub make-requires-clause-base : goal.make-requires-clause-base
make-requires-clause-base c = subst IsBase (sym c.in_ok-facts.ensures) c.requires

pub make-requires-clause-some : goal.make-requires-clause-some
make-requires-clause-some c =
    let facts : PcpuFacts = c.in_ok-facts.facts in
    let base : IsBase facts = subst IsBase (sym c.in_ok-facts.ensures) c.requires in
    let long : length c.as_slice-2.result.now ≡ word_count facts =
    ap length (c.as_slice-2.ensures.value ∙ c.in_ok-first.ensures) ∙ opening-length facts base in
    omega (arith, long)

pub invariant_of-result : goal.invariant_of-result
invariant_of-result c =
    let facts : PcpuFacts = c.in_ok-facts.facts in
    let base : IsBase facts = subst IsBase (sym c.in_ok-facts.ensures) c.requires in
    let long : length c.in_ok-first.first.items ≡ word_count facts =
    ap length c.in_ok-first.ensures ∙ opening-length facts base in
    record {
      base = base;
      same = c.in_ok-words.ensures.words.0;
      count = c.in_ok-words.ensures.words.1 ∙ ap length c.as_slice-2.ensures.value ∙ long;
      fits = omega (arith, long, c.in_ok-first.first.ok.0, c.in_ok-first.first.ok.1, c.in_ok-first.first.small);
      present_are = c.count_present-present.ensures ∙ ap (count_by is_present) c.as_slice.ensures;
    }
