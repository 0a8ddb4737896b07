-- The name of the order is the one that is looked for.
use Rattle.std.proofs.Common.{◌≡◌, ℕ, ◌+◌, ◌<◌, ap, ◌∙◌, List, Option, Some, None, sym, [], get_or, ◌-◌}
use Rattle.std.specs.Prelude.{IfSome}
use Rattle.vms_base.specs.declared.headers.Header.{Header}
use Rattle.vms_base.specs.declared.headers.ItemDecl.{ItemDecl}
use Rattle.vms_base.specs.Common.{area_names, IsHeader}
use Rattle.vms_calc.proofs.AreaLists.{index_of, position-within}
use Rattle.vms_calc.proofs.areas.item_index.Goals as goal

all-within : (header : Header) → IsHeader header → (name : List ℕ) (found : Option ℕ)
    → found ≡ index_of header.items name → IfSome found (λ index. 8 + index < header.layout.positions)
all-within header valid name None is = tt
all-within header valid name (Some index) is = position-within header valid name index (sym is)

pub returns-clause-value : goal.returns-clause-value
returns-clause-value c =
    c.declared_index.ensures
    ∙ ap (λ (items : List ItemDecl). index_of items c.area_name.result.now) c.as_slice.ensures
    ∙ ap (index_of c.args.header.now.items) c.area_name.ensures

pub returns-clause-bound : goal.returns-clause-bound
returns-clause-bound c = all-within c.args.header.now c.requires.header (get_or area_names (c.args.order - 1) [])
    c.declared_index.result (returns-clause-value c)
