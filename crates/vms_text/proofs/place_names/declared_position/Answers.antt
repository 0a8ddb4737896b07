use Rattle.std.proofs.Common.{bytes_eq, cond, not, rules, sym, tests, ◌∙◌}
use Rattle.std.proofs.lemmas.Iterator.Consumers.{YieldsList-from_filter}
use Rattle.std.proofs.lemmas.Iterator.Search.{position_from_yields_List}
use Rattle.std.proofs.lemmas.Iterator.{YieldsList-from_slice}
use Rattle.vms_text.specs.Common.{declared_items}
use Rattle.vms_text.proofs.Positions.{position-map}
use Rattle.vms_text.proofs.place_names.declared_position.Goals as goal

pub returns : goal.returns
returns c =
    position_from_yields_List (λ item. bytes_eq c.args.word.now item.name) _ _ c.position.result c.position.ensures.ran
    (YieldsList-from_filter _ (λ item. cond c.args.node item.node (not item.node))
    (YieldsList-from_slice c.args.items.now cc) c.filter.ensures.closure (λ x r q k. search (rules, tests)))
    (λ x b q k. search (rules, tests))
    ∙ sym (position-map (bytes_eq c.args.word.now) (λ item. item.name) (declared_items c.args.node c.args.items.now))
