use Rattle.std.proofs.Common.{ap, cond, not, option_map, rules, sym, tests, ◌∙◌}
use Rattle.std.proofs.lemmas.Iterator.Consumers.{YieldsList-from_filter, nth_from_yields_List}
use Rattle.std.proofs.lemmas.Iterator.{YieldsList-from_slice}
use Rattle.vms_text.specs.Common.{is_item_in_bytes}
use Rattle.vms_text.proofs.place_names.is_declared_in_bytes.Goals as goal

pub returns-in-Some : goal.returns-in-Some
returns-in-Some c =
    let found = nth_from_yields_List c.nth.result c.nth.new.self c.args.index c.nth.ensures.ran
    (YieldsList-from_filter _ (λ item. cond c.args.node item.node (not item.node))
    (YieldsList-from_slice c.args.items.now cc) c.filter.ensures.closure (λ x r q k. search (rules, tests))) in
    ap is_item_in_bytes (sym (ap (option_map (λ item. item.now)) c.in-Some.is) ∙ found)

pub returns-in-None : goal.returns-in-None
returns-in-None c =
    let found = nth_from_yields_List c.nth.result c.nth.new.self c.args.index c.nth.ensures.ran
    (YieldsList-from_filter _ (λ item. cond c.args.node item.node (not item.node))
    (YieldsList-from_slice c.args.items.now cc) c.filter.ensures.closure (λ x r q k. search (rules, tests))) in
    ap is_item_in_bytes (sym (ap (option_map (λ item. item.now)) c.in-None.is) ∙ found)
