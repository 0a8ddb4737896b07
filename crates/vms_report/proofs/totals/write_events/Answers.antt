-- The line of an event more.
use Rattle.std.proofs.Common.{◌≡◌, ◌<◌, ◌∷◌, [], ◌++◌, ◌∙◌, Bor, List, ℕ, ℤ, ap, ap₂, sym, arith, codes, length, get_or}
use Rattle.std.proofs.Common.{rules, w64, to_z, of_z}
use Rattle.std.specs.Fmt.{signed_decimal}
use Rattle.std.proofs.lemmas.List.{get_or-map, length-map}
use Rattle.vms_world.specs.Common.{event_names, sentence}
use Rattle.vms_text.proofs.Common.{Begins-after, OnErr-true, append_twice}
use Rattle.vms_report.specs.Common.{event_total}
use Rattle.vms_report.proofs.Entries.{lines-more}
use Rattle.vms_report.proofs.totals.write_events.Goals as goal

pub loop-number-preserved : goal.loop-number-preserved
loop-number-preserved c =
    let total : ℕ → ℤ = event_total c.args.header.now c.args.world.now in
    let n = c.loop-number.number in
    let listed = c.event_names-name-items.ensures in
    let here : n < length c.event_names-name-items.result.now = omega (arith, c.loop-number-test.true) in
    let within : n < length event_names = omega (
      arith,
      here,
      ap length listed,
      length-map c.event_names-name-items.result.now (λ (name : Bor (List ℕ)). name.now),
    ) in
    let kept : to_z w64 (of_z w64 c.event_total-total.result) ≡ c.event_total-total.result = search rules in
    let name : c.as_bytes.result.now ≡ get_or event_names n [] = c.as_bytes.ensures.value
    ∙ sym (get_or-map (λ (name : Bor (List ℕ)). name.now) c.event_names-name-items.result.now n _ [] here)
    ∙ ap (λ (all : List (List ℕ)). get_or all n []) listed in
    append_twice _ _ _ _ _ _
    (c.in_ok-write_named.ensures.ok
    ∙ ap₂ (λ (word : List ℕ) (z : ℤ). c.loop-number.out.items
    ++ sentence (codes "event" ∷ word ∷ signed_decimal z ∷ [])) name (kept ∙ c.event_total-total.ensures))
    c.loop-number.invariant
    (sym (lines-more sentence (λ x. codes "event" ∷ x.1 ∷ signed_decimal (total x.0) ∷ []) event_names n [] within))

pub returns-in_err-write_named-clause-err : goal.returns-in_err-write_named-clause-err
returns-in_err-write_named-clause-err c =
    OnErr-true c.from_residual.result _ (Begins-after _ _ _ _ c.loop-number.invariant c.in_err-write_named.ensures.err)
