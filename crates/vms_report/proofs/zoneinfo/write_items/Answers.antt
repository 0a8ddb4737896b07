-- The line of an item more, and of all items at the end.
use Rattle.std.proofs.Common.{◌≡◌, ◌<◌, ◌∷◌, [], ◌++◌, ◌∙◌, Bor, List, ℕ, ap, sym, arith, length, map, ap₂, flat_map}
use Rattle.std.proofs.Common.{rules, ℤ, w64, to_z, of_z}
use Rattle.std.specs.Prelude.{decimal}
use Rattle.std.specs.List.{enumerate_from}
use Rattle.std.proofs.lemmas.List.{get_or-map, length-map, take_all}
use Rattle.vms_world.specs.Common.{at_least_zero, value_at}
use Rattle.vms_text.proofs.Common.{append_twice, Begins-after, OnErr-true}
use Rattle.vms_report.specs.Common.{indented, told_value}
use Rattle.vms_report.proofs.Entries.{lines-more}
use Rattle.vms_report.proofs.zoneinfo.write_items.Goals as goal

pub loop-position-preserved : goal.loop-position-preserved
loop-position-preserved c =
    let header = c.args.header.now in
    let w = c.args.world.now in
    let g = c.args.place.number in
    let n = c.loop-position.position in
    let names = map (λ (name : Bor (List ℕ)). name.now) c.args.names.now in
    let within : n < length names = omega (
      arith,
      c.loop-position-test.true,
      length-map c.args.names.now (λ (name : Bor (List ℕ)). name.now),
    ) in
    let kept : to_z w64 (of_z w64 c.value_at.result) ≡ c.value_at.result = search rules in
    let name = sym (get_or-map (λ (name : Bor (List ℕ)). name.now) c.args.names.now n _ [] (omega (
      arith,
      c.loop-position-test.true,
    ))) in
    let value = c.clamped-value.ensures
    ∙ ap (λ (z : ℤ). decimal (at_least_zero z)) (kept ∙ c.value_at.ensures ∙ ap (value_at w.pages)
    c.counter-counter.ensures.value) in
    append_twice _ _ _ _ _ _
    (c.in_ok-write_indented.ensures.ok
    ∙ ap₂ (λ (word told : List ℕ). c.loop-position.out.items ++ indented (word ∷ told ∷ [])) name value)
    c.loop-position.invariant
    (sym (lines-more indented (λ x. x.1 ∷ decimal (told_value header w g x.0) ∷ []) names n [] within))

pub returns-clause-ok : goal.returns-clause-ok
returns-clause-ok c =
    let header = c.args.header.now in
    let w = c.args.world.now in
    let g = c.args.place.number in
    let names = map (λ (name : Bor (List ℕ)). name.now) c.args.names.now in
    let all = take_all c.loop-position.position names
    (omega (arith, c.loop-position-test.false, length-map c.args.names.now (λ (name : Bor (List ℕ)). name.now))) in
    c.loop-position.invariant
    ∙ ap (λ (xs : List (List ℕ)). c.args.out.now.items ++ flat_map indented
    (map (λ x. x.1 ∷ decimal (told_value header w g x.0) ∷ []) (enumerate_from 0 xs))) all
    ∙ ap (λ xs. c.args.out.now.items ++ flat_map indented
    (map (λ x. x.1 ∷ decimal (told_value header w g x.0) ∷ []) xs)) c.requires.names

pub returns-in_err-write_indented-clause-err : goal.returns-in_err-write_indented-clause-err
returns-in_err-write_indented-clause-err c =
    OnErr-true c.from_residual.result _
    (Begins-after _ _ _ _ c.loop-position.invariant c.in_err-write_indented.ensures.err)
