-- A boundary line more.
use Rattle.std.proofs.Common.{◌≡◌, ◌++◌, ◌∷◌, [], ℕ, ◌+◌, List, ap, sym, ◌∙◌, arith, length}
use Rattle.vms_world.specs.Common.{Item}
use Rattle.vms_history_checks.specs.declared.bounds.BoundaryAt.{BoundaryAt}
use Rattle.vms_history_checks.specs.Bounds.{bounds_of, scripts_of}
use Rattle.vms_history_judge.proofs.GivenSegments.{bounds-between, scripts-between, scripts-few}
use Rattle.vms_history_judge.proofs.judges.JudgeHistoryJudge.add_boundary.Goals as goal

pub count_of-after-requires : goal.count_of-after-requires
count_of-after-requires g c =
    let gathers = c.requires.2 in
    omega (
      arith,
      ap (λ (scripts : List (List Item)). length scripts) gathers.scripts,
      scripts-few c.requires.1,
      c.requires.3,
    )

pub returns : goal.returns
returns g c = λ header segments n gathers.
    let each = ap (λ (scripts : List (List Item)). length scripts) gathers.scripts in
    let counted : c.count_of-after.result ≡ 0 + length (scripts_of segments) =
    omega (arith, c.count_of-after.ensures, each) in
    record {
      bounds = c.in_ok-push.ensures.items
          ∙ ap (λ (bounds : List BoundaryAt). bounds
          ++ record { after = c.count_of-after.result; boundary = c.args.boundary } ∷ []) gathers.bounds
          ∙ ap (λ (k : ℕ). bounds_of 0 segments ++ record { after = k; boundary = c.args.boundary } ∷ []) counted
          ∙ sym (bounds-between 0 segments n c.args.boundary);
      scripts = gathers.scripts ∙ sym (scripts-between segments n c.args.boundary);
    }
