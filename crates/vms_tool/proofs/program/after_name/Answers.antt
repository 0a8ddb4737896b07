-- The first argument is passed over.
use Rattle.std.proofs.Common.{Ok, refl, sym, subst}
use Rattle.std.proofs.lemmas.Iterator.{YieldsList, items_from_collect}
use Rattle.std.proofs.lemmas.Iterator.Adapters.{YieldsList-from_skip, YieldsList-from_vec}
use Rattle.std.specs.Vec.Iter.{into_iter_items, into_iter_steps}
use Rattle.vms_tool.proofs.program.after_name.Goals as goal

pub returns : goal.returns
returns c =
    let args = c.args.args in
    items_from_collect {E = Unit {0}} (Ok c.in_ok-collect.field-0) c.in_ok-collect.ensures.ran
    (YieldsList-from_skip 1 (subst (λ source. YieldsList into_iter_steps (λ word. word) source (into_iter_items args))
    (sym c.skip.ensures.source) (YieldsList-from_vec (into_iter_items args) refl args.rest.ok.0))
    c.skip.ensures.count)
