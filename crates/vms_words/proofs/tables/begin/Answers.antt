-- The goals were that the words show the state at the start, that there are some, how many they are, and that the main
-- pass keeps the settings at the start.
use Rattle.std.proofs.Common.{◌<◌, ◌∙◌, refl, sym, ap, subst}
use Rattle.vms_calls.specs.Common.{Facts, History}
use Rattle.vms_words.specs.declared.spots.Blocks.{Blocks}
use Rattle.vms_words.specs.Common.{KeepsSettings}
use Rattle.vms_words.proofs.ShownWords.{words-shown, length-words, some-words}
use Rattle.vms_words.proofs.tables.begin.Goals as goal

pub make-requires-clause-shown : goal.make-requires-clause-shown
make-requires-clause-shown c = words-shown c.args.facts.now c.args.facts.now.base c.args.blocks.now
    c.as_slice.result.now c.requires.laid (c.as_slice.ensures.value ∙ c.in_ok-first.ensures)

pub make-requires-clause-some : goal.make-requires-clause-some
make-requires-clause-some c =
    subst (λ n. 0 < n)
    (sym (length-words c.args.facts.now.base c.args.blocks.now c.as_slice.result.now
    (c.as_slice.ensures.value ∙ c.in_ok-first.ensures) ∙ ap (λ (b : Blocks). b.end) c.requires.laid))
    (some-words c.args.facts.now c.requires.base.layout)

pub returns-clause-words : goal.returns-clause-words
returns-clause-words c = (
  c.in_ok-words.ensures.words.0,
  c.in_ok-words.ensures.words.1
      ∙ length-words c.args.facts.now.base c.args.blocks.now c.as_slice.result.now
      (c.as_slice.ensures.value ∙ c.in_ok-first.ensures),
)

pub invariant_of-result : goal.invariant_of-result
invariant_of-result c free =
    let made = c.in_ok-words.ensures in (
      c.in_ok-kept.kept,
      refl,
      subst (λ (f : Facts). KeepsSettings f c.in_ok-words.main.seen c.in_ok-kept.kept)
          (sym (made.main.0.facts ∙ made.words.0))
          (subst (λ (h : History). KeepsSettings c.args.facts.now h c.in_ok-kept.kept) (sym made.main.1)
          (c.in_ok-kept.ensures c.args.facts.now.sizes)),
    )
