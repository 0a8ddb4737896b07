-- The line of a percpu counter more.
use Rattle.std.proofs.Common.{◌≡◌, ◌<◌, ◌∷◌, [], ◌++◌, ◌∙◌, List, ℕ, ℤ, ap, ap₂, sym, arith, codes, length, get_or}
use Rattle.std.proofs.Common.{rules, w64, to_z, of_z}
use Rattle.std.specs.Fmt.{signed_decimal}
use Rattle.vms_world.specs.Common.{Decl, sentence}
use Rattle.vms_text.proofs.Common.{Begins-after, OnErr-true, append_twice}
use Rattle.vms_report.specs.Common.{pcpu_total}
use Rattle.vms_report.proofs.Entries.{lines-more}
use Rattle.vms_report.proofs.totals.write_percpu.Goals as goal

pub loop-counter-preserved : goal.loop-counter-preserved
loop-counter-preserved c =
    let header = c.args.header.now in
    let total : ℕ → ℤ = pcpu_total header c.args.world.now in
    let n = c.loop-counter.counter in
    let d = c.decl-item.result in
    let listed = c.as_slice-decl-items.ensures in
    let within : n < length header.counters = omega (arith, c.loop-counter-test.true, ap length listed) in
    let kept : to_z w64 (of_z w64 c.counter_total-total.result) ≡ c.counter_total-total.result = search rules in
    let name : c.as_slice.result.now ≡ (get_or header.counters n d).name = c.as_slice.ensures
    ∙ ap (λ (decl : Decl). decl.name) (c.decl-item.is ∙ ap (λ (xs : List Decl). get_or xs n d) listed) in
    append_twice _ _ _ _ _ _
    (c.in_ok-write_named.ensures.ok
    ∙ ap₂ (λ (word : List ℕ) (z : ℤ). c.loop-counter.out.items
    ++ sentence (codes "counter" ∷ word ∷ signed_decimal z ∷ [])) name (kept ∙ c.counter_total-total.ensures))
    c.loop-counter.invariant
    (sym (lines-more sentence (λ x. codes "counter" ∷ x.1.name ∷ signed_decimal (total x.0) ∷ []) header.counters n d
    within))

pub returns-in_err-write_named-clause-err : goal.returns-in_err-write_named-clause-err
returns-in_err-write_named-clause-err c =
    OnErr-true c.from_residual.result _ (Begins-after _ _ _ _ c.loop-counter.invariant c.in_err-write_named.ensures.err)
