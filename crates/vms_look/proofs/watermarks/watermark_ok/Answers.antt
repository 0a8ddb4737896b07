-- The goals were that the header's sizes are the table's, and what the test made.
use Rattle.std.proofs.Common.{ℕ, All, length, nat_lt, ap, sym, ◌∙◌, subst}
use Rattle.vms_calls.specs.Common.{Shape, IsValidSize, IsBase, pages}
use Rattle.vms_history.proofs.Common.{base_can_begin}
use Rattle.vms_look.proofs.TestSteps.{tested}
use Rattle.vms_look.proofs.watermarks.watermark_ok.Goals as goal

pub limit-limit-requires-clause-one_each : goal.limit-limit-requires-clause-one_each
limit-limit-requires-clause-one_each g c =
    let pass = g.P.Caller.pass c.args.pass.now in
    let base = subst IsBase c.requires.table.facts
    (base_can_begin pages pass.facts pass.seen c.is_live.ensures.legal) in
    ap length c.requires.sizes ∙ base.one_size_each ∙ sym (ap (λ (s : Shape). length s.zones) c.requires.layout)

pub limit-limit-requires-clause-sizes : goal.limit-limit-requires-clause-sizes
limit-limit-requires-clause-sizes g c =
    let pass = g.P.Caller.pass c.args.pass.now in
    let base = subst IsBase c.requires.table.facts
    (base_can_begin pages pass.facts pass.seen c.is_live.ensures.legal) in
    subst (All IsValidSize) (sym c.requires.sizes) base.sizes

pub returns-clause-made : goal.returns-clause-made
returns-clause-made g c =
    tested c.args.header.now c.args.table.now.facts.layout c.requires.layout
    (g.P.Caller.pass c.free_pages-found.new.pass)
    (g.P.Caller.pass c.args.pass.now) c.args.zone c.args.mark c.args.most c.free_pages-found.result.free
    c.free_pages-found.result.fast
    (nat_lt c.limit-limit.result c.free_pages-found.result.free)
    (ap (λ (l : ℕ). nat_lt l c.free_pages-found.result.free) c.limit-limit.ensures.value)
    c.free_pages-found.ensures.made
