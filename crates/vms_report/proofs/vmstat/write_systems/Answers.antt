-- The line of an item more.
use Rattle.std.proofs.Common.{◌≡◌, ◌+◌, ◌<◌, ◌∷◌, [], ◌++◌, ◌∙◌, Bor, List, ℕ, ℤ, ap, ap₂, sym, arith, length, map}
use Rattle.std.proofs.Common.{rules, w64, to_z, of_z}
use Rattle.std.specs.Prelude.{decimal}
use Rattle.std.proofs.lemmas.List.{get_or-map, length-map}
use Rattle.vms_world.specs.Common.{at_least_zero, system_at, sentence}
use Rattle.vms_text.proofs.Common.{append_twice}
use Rattle.vms_report.proofs.Entries.{lines-more}
use Rattle.vms_report.proofs.vmstat.write_systems.Goals as goal

pub loop-position-preserved : goal.loop-position-preserved
loop-position-preserved c =
    let pages = c.args.world.now.pages in
    let n = c.loop-position.position in
    let names = map (λ (name : Bor (List ℕ)). name.now) c.args.names.now in
    let here : n < length c.args.names.now = omega (arith, c.loop-position-test.true) in
    let within : n < length names =
    omega (arith, here, length-map c.args.names.now (λ (name : Bor (List ℕ)). name.now)) in
    let kept : to_z w64 (of_z w64 c.system_at.result) ≡ c.system_at.result = search rules in
    let value = c.clamped-value.ensures ∙ ap (λ (z : ℤ). decimal (at_least_zero z)) (kept ∙ c.system_at.ensures) in
    append_twice _ _ _ _ _ _
    (c.in_ok-write_words.ensures.ok
    ∙ ap₂ (λ (word told : List ℕ). c.loop-position.out.items ++ sentence (word ∷ told ∷ []))
    (sym (get_or-map (λ (name : Bor (List ℕ)). name.now) c.args.names.now n _ [] here)) value)
    c.loop-position.invariant
    (sym (lines-more sentence (λ x. x.1 ∷ decimal (at_least_zero (system_at pages (c.args.first + x.0))) ∷ []) names n
    [] within))
