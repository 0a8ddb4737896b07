-- The pieces of the line.
use Rattle.std.proofs.Common.{◌∷◌, [], ◌++◌, ◌∙◌, List, ℕ, ap, codes}
use Rattle.vms_report.proofs.Pieces.{heading-of_pieces}
use Rattle.vms_report.proofs.zoneinfo.write_heading.Goals as goal

pub returns-clause-ok : goal.returns-clause-ok
returns-clause-ok c =
    c.in_ok-push.ensures.items
    ∙ ap (λ (front : List ℕ). front ++ (10 ∷ [])) (c.in_ok-extend_from_slice-2.ensures.items
    ∙ ap (λ (name : List ℕ). c.extend_from_slice.new.self.items ++ name) c.as_bytes.ensures.value
    ∙ ap (λ (front : List ℕ). front ++ c.kind_name.result.now) (c.in_ok-extend_from_slice.ensures.items
    ∙ ap (λ (front : List ℕ). front ++ codes " zone ") c.in_ok-push_node.ensures.ok))
    ∙ heading-of_pieces c.args.zone c.kind_name.result.now c.args.out.now.items c.kind_name.ensures
