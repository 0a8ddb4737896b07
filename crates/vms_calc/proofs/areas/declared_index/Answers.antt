-- The first of the zones' items that passes.
use Rattle.std.proofs.Common.{◌&&◌, bytes_eq, not, rules, tests}
use Rattle.std.proofs.lemmas.Iterator.{YieldsList-from_slice}
use Rattle.std.proofs.lemmas.Iterator.Consumers.{YieldsList-from_filter}
use Rattle.std.proofs.lemmas.Iterator.Search.{position_from_yields_List}
use Rattle.vms_calc.proofs.areas.declared_index.Goals as goal

pub returns : goal.returns
returns c = position_from_yields_List (λ item. bytes_eq item.name c.args.name.now && not item.bytes) _ _
    c.position.result c.position.ensures.ran
    (YieldsList-from_filter _ (λ item. not item.node) (YieldsList-from_slice c.args.items.now cc)
    c.filter.ensures.closure (λ x b q k. search (rules, tests)))
    (λ x b q k. search (rules, tests))
