-- The goals were that the facts are those of a base, and that the words stand in their blocks.
use Rattle.std.proofs.Common.{◌∙◌, sym, ap, subst}
use Rattle.vms_calls.specs.Common.{Facts, IsBase}
use Rattle.vms_words.specs.Spots.{blocks_of}
use Rattle.vms_words.proofs.tables.PageTable.make.Goals as goal

pub begin-requires-clause-base : goal.begin-requires-clause-base
begin-requires-clause-base c = subst IsBase (sym c.in_ok-facts.ensures) c.requires

pub invariant_of-result : goal.invariant_of-result
invariant_of-result c = record {
  base = subst IsBase (sym (c.in_ok-words.ensures.words.0 ∙ c.in_ok-facts.ensures)) c.requires;
  same = ap (λ (f : Facts). f.layout) c.in_ok-words.ensures.words.0 ∙ sym c.layout_of-layout.ensures;
  laid = c.of-blocks.ensures ∙ ap blocks_of (sym c.layout_of-layout.ensures);
  count = c.in_ok-words.ensures.words.1;
}
