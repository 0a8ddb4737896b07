use Rattle.std.proofs.Common.{bytes_eq, rules, sym, tests, ◌∙◌}
use Rattle.std.proofs.lemmas.Iterator.Search.{position_from_yields_List}
use Rattle.std.proofs.lemmas.Iterator.{YieldsList-from_slice}
use Rattle.vms_text.proofs.Common.{position-map}
use Rattle.vms_line.proofs.fields.decl_index.Goals as goal

pub returns-clause-value : goal.returns-clause-value
returns-clause-value c =
    position_from_yields_List (λ decl. bytes_eq c.args.word.now decl.name) _ _ c.position.result c.position.ensures.ran
    (YieldsList-from_slice _ c.iter.ensures.rest) (λ x b q k. search (rules, tests))
    ∙ sym (position-map (bytes_eq c.args.word.now) (λ decl. decl.name) c.args.decls.now)
