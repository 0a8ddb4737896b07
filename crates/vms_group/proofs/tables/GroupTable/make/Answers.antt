-- The goals were that the facts are a base, that there is a word, and that the table is for its facts.
use Rattle.std.proofs.Common.{◌≡◌, length, ap, sym, subst, ◌∙◌, arith}
use Rattle.vms_group_core.specs.declared.steps.GroupFacts.{GroupFacts}
use Rattle.vms_group_core.specs.Common.{IsBase}
use Rattle.vms_group.specs.Common.{word_count}
use Rattle.vms_group.proofs.OpeningWords.{opening-length, words-some}
use Rattle.vms_group.proofs.tables.GroupTable.make.Goals as goal

pub opening_words-requires : goal.opening_words-requires
opening_words-requires c = subst IsBase (sym c.in_ok-facts.ensures) c.requires

pub make-requires-clause-base : goal.make-requires-clause-base
make-requires-clause-base c = subst IsBase (sym c.in_ok-facts.ensures) c.requires

pub make-requires-clause-some : goal.make-requires-clause-some
make-requires-clause-some c =
    let facts : GroupFacts = c.in_ok-facts.facts in
    let base : IsBase facts = subst IsBase (sym c.in_ok-facts.ensures) c.requires in
    let long : length c.as_slice.result.now ≡ word_count facts.tree =
    ap length (c.as_slice.ensures.value ∙ c.in_ok-first.ensures) ∙ opening-length facts base in
    omega (arith, long, words-some facts.tree base.tree)

pub invariant_of-result : goal.invariant_of-result
invariant_of-result c =
    let facts : GroupFacts = c.in_ok-facts.facts in
    let base : IsBase facts = subst IsBase (sym c.in_ok-facts.ensures) c.requires in
    let long : length c.in_ok-first.first.items ≡ word_count facts.tree =
    ap length c.in_ok-first.ensures ∙ opening-length facts base in
    record {
      base = base;
      same = c.in_ok-words.ensures.words.0;
      count = c.in_ok-words.ensures.words.1 ∙ ap length c.as_slice.ensures.value ∙ long;
    }
