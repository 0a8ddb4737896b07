-- The pieces of the line.
use Rattle.std.proofs.Common.{refl, ◌≡◌, ◌∷◌, [], ◌++◌, ◌∙◌, List, ℕ, ℤ, pos, ap, sym, codes, decimal, map, rules, w64}
use Rattle.std.proofs.Common.{to_z, of_z}
use Rattle.std.specs.Fmt.{signed_decimal}
use Rattle.vms_world.specs.Common.{present_from, count_at, local_at, spaced}
use Rattle.vms_plain_pcpu.specs.Common.{total_in}
use Rattle.vms_text.proofs.Common.{Begins-after, OnErr-from, OnOk-from}
use Rattle.vms_report.proofs.Pieces.{line-of_pieces}
use Rattle.vms_report.proofs.counters.write_counter.Goals as goal

pub returns-clause-ok : goal.returns-clause-ok
returns-clause-ok c =
    let j = c.args.counter in
    let s = c.args.world.now.counters in
    let states = c.args.world.now.pages.cpu in
    let decl = c.args.decl.now in
    let got : to_z w64 (of_z w64 c.get.result) ≡ c.get.result = search rules in
    let added : to_z w64 (of_z w64 c.total.result) ≡ c.total.result = search rules in
    let shared : ℤ → List (List ℕ) = λ z. codes "batch" ∷ decimal decl.batch ∷ codes "count" ∷ signed_decimal z
    ∷ codes "locals" ∷ [] in
    let last : ℤ → List (List ℕ) = λ z. codes "sum" ∷ signed_decimal z ∷ [] in
    OnOk-from c.push_sum.result _ _
    (λ more. line-of_pieces decl.name (shared (count_at s j))
    (map (λ cpu. signed_decimal (local_at s cpu.number j)) (present_from 0 states)) (last (total_in s states j)) _ _ _ _
    (c.in_ok-push_shared.ensures.ok ∙ ap (λ (z : ℤ). (c.args.out.now.items ++ decl.name) ++ spaced (shared z))
    (got ∙ sym (c.get.ensures (pos 0))))
    c.in_ok-push_locals.ensures.ok
    (more ∙ ap (λ (z : ℤ). (c.push_locals.new.out.items ++ spaced (last z)) ++ (10 ∷ [])) (added ∙ c.total.ensures)))
    c.push_sum.ensures.ok

pub returns-clause-err : goal.returns-clause-err
returns-clause-err c =
    OnErr-from c.push_sum.result _ _
    (λ begins. Begins-after _ _ _ _ refl (Begins-after _ _ _ _ c.in_ok-push_shared.ensures.ok
    (Begins-after _ _ _ _ c.in_ok-push_locals.ensures.ok begins)))
    c.push_sum.ensures.err
