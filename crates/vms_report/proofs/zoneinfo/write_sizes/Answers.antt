-- The lines, one after another.
use Rattle.vms_text.proofs.Common.{OnErr-true, Begins-after, OnErr-from, OnOk-from}
use Rattle.std.proofs.Common.{◌≡◌, ◌∷◌, [], ◌++◌, ◌∙◌, List, ℕ, ℤ, ap, sym, codes, decimal, flat_map, rules, w64, to_z}
use Rattle.std.proofs.Common.{of_z}
use Rattle.vms_world.specs.Common.{ZoneSize, size_at, at_least_zero, mark_at, value_at, text_of}
use Rattle.vms_report.specs.Common.{indented, mark_lines, protection_words, told_value}
use Rattle.vms_report.proofs.Pieces.{lines-in_turn}
use Rattle.vms_report.proofs.zoneinfo.write_sizes.Goals as goal

pub returns-clause-ok : goal.returns-clause-ok
returns-clause-ok c =
    let header = c.args.header.now in
    let w = c.args.world.now in
    let g = c.args.zone.number in
    let before = c.args.out.now.items in
    let free : List ℕ → List (List ℕ) = λ told. codes "pages" ∷ codes "free" ∷ told ∷ [] in
    let drift : ℕ → List (List ℕ) = λ mark. codes "drift" ∷ codes "mark" ∷ decimal mark ∷ [] in
    let kept : to_z w64 (of_z w64 c.value_at-free.result) ≡ c.value_at-free.result = search rules in
    let told : text_of c.clamped.result ≡ decimal (told_value header w g 0) = c.clamped.ensures
    ∙ ap (λ (z : ℤ). decimal (at_least_zero z)) (kept ∙ c.value_at-free.ensures
    ∙ ap (value_at w.pages) c.counter.ensures.value) in
    let size : c.get.result ≡ size_at header.sizes g =
    sym (c.get.ensures (record { managed = 0; min = 0; low = 0; high = 0 })) in
    let frees = c.in_ok-write_indented.ensures.ok ∙ ap (λ (text : List ℕ). before ++ indented (free text)) told in
    let marks = c.in_ok-write_marks.ensures.ok
    ∙ ap (λ (s : ZoneSize). c.write_indented.new.out.items ++ flat_map indented (mark_lines s)) size in
    let drifts = c.in_ok-write_indented-2.ensures.ok
    ∙ ap (λ (m : ℕ). c.write_marks.new.out.items ++ indented (drift m)) c.mark_at.ensures.mark in
    OnOk-from c.write_protection.result _ _
    (λ last. last ∙ ap (λ (front : List ℕ). front ++ indented (protection_words header g)) (drifts
    ∙ ap (λ (front : List ℕ). front ++ indented (drift (mark_at w.pages g))) (marks
    ∙ ap (λ (front : List ℕ). front ++ flat_map indented (mark_lines (size_at header.sizes g))) frees))
    ∙ lines-in_turn (free (decimal (told_value header w g 0))) (mark_lines (size_at header.sizes g))
    (drift (mark_at w.pages g)) (protection_words header g) before)
    c.write_protection.ensures.ok

pub returns-clause-err : goal.returns-clause-err
returns-clause-err c =
    OnErr-from c.write_protection.result _ _
    (λ begins. Begins-after _ _ _ _ c.in_ok-write_indented.ensures.ok
    (Begins-after _ _ _ _ c.in_ok-write_marks.ensures.ok
    (Begins-after _ _ _ _ c.in_ok-write_indented-2.ensures.ok begins)))
    c.write_protection.ensures.err

pub returns-in_err-write_marks-clause-err : goal.returns-in_err-write_marks-clause-err
returns-in_err-write_marks-clause-err c =
    OnErr-true c.from_residual-in_err-write_marks.result _ (Begins-after _ _ _ _ c.in_ok-write_indented.ensures.ok c.in_err-write_marks.ensures.err)
