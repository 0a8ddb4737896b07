-- For other crates too: a header of groups is one, and rests on the lines up to its end, or up to its fault.
use Rattle.std.proofs.Common.{ℕ, suc, ◌≡◌, ◌+◌, ◌<◌, ◌≤◌, List, [], ◌∷◌, ◌++◌, length, Result, Ok, Err, IfOk, refl, ap}
use Rattle.std.proofs.Common.{◌∙◌, arith}
use Rattle.vms_group_lines.specs.declared.causes.GroupCause.{GroupCause}
use Rattle.vms_group_lines.specs.declared.headers.GroupHeader.{GroupHeader}
use Rattle.vms_group_lines.specs.Common.{GroupFault, IsGroupHeader, IsGroupStage, IsGroupSettled, IsHeadStep}
use Rattle.vms_group_lines.specs.Common.{group_head_line, group_header_from, on_group_step, read_group_header}
use Rattle.vms_group_lines.specs.declared.stages.GroupStage.{GroupStage}
use Rattle.vms_group_lines.specs.declared.stages.HeadStep.{HeadStep}
use Rattle.vms_group_lines.specs.declared.stages.GroupStage.TheVariants.{Opening}
use Rattle.vms_group_lines.specs.declared.stages.HeadStep.TheVariants.{Goes, Ends}
use Rattle.vms_group_lines.proofs.HeadersKept.{group_head_line-keeps}

-- a step that gives a header, or goes on to one
step-valid : (n : ℕ) (step : Result HeadStep GroupCause) (follows : GroupStage → Result (GroupHeader × ℕ) GroupFault)
    → IfOk step IsHeadStep
    → ((next : GroupStage) → IsGroupStage next → IfOk (follows next) (λ found. IsGroupHeader found.0))
    → IfOk (on_group_step n step follows) (λ found. IsGroupHeader found.0)
step-valid n (Ok (Goes next)) follows kept later = later next kept
step-valid n (Ok (Ends header)) follows kept later = kept
step-valid n (Err cause) follows kept later = tt

header_from-valid : (n : ℕ) (stage : GroupStage) (lines : List (List ℕ)) → IsGroupStage stage
    → IfOk (group_header_from n stage lines) (λ found. IsGroupHeader found.0)
header_from-valid n stage [] is = tt
header_from-valid n stage (line ∷ lines) is =
    step-valid n (group_head_line stage line) (λ next. group_header_from (suc n) next lines)
    (group_head_line-keeps stage line is) (λ next valid. header_from-valid (suc n) next lines valid)

-- every header that is read is one
pub read_group_header-valid : (lines : List (List ℕ)) → IfOk (read_group_header lines) (λ found. IsGroupHeader found.0)
read_group_header-valid lines = header_from-valid 1 Opening lines tt

-- what lines from line n on answer, whatever comes after them
abbrev Settles : ℕ → GroupStage → List (List ℕ) → Result (GroupHeader × ℕ) GroupFault → Type 0
Settles n stage lines (Ok found) =
    (n ≤ found.1) × (found.1 < n + length lines)
    × ((more : List (List ℕ)) → group_header_from n stage (lines ++ more) ≡ Ok found)
Settles n stage lines (Err fault) =
    (n ≤ fault.line) × (fault.line ≤ n + length lines)
    × (fault.line < n + length lines → (more : List (List ℕ)) → group_header_from n stage (lines ++ more) ≡ Err fault)

goes-settles : (n : ℕ) (stage next : GroupStage) (line : List ℕ) (lines : List (List ℕ))
    (found : Result (GroupHeader × ℕ) GroupFault) → group_head_line stage line ≡ Ok (Goes next)
    → Settles (suc n) next lines found → Settles n stage (line ∷ lines) found
goes-settles n stage next line lines (Ok found) goes settles = (
  omega (arith, settles.0),
  omega (arith, settles.1),
  λ more. ap (λ step. on_group_step n step (λ next. group_header_from (suc n) next (lines ++ more))) goes
      ∙ settles.2 more,
)
goes-settles n stage next line lines (Err fault) goes settles = (
  omega (arith, settles.0),
  omega (arith, settles.1),
  λ within more. ap (λ step. on_group_step n step (λ next. group_header_from (suc n) next (lines ++ more))) goes
      ∙ settles.2 (omega (arith, within)) more,
)

header_from-settles : (n : ℕ) (stage : GroupStage) (lines : List (List ℕ))
    → Settles n stage lines (group_header_from n stage lines)
header_from-settles n stage [] = (omega arith, omega arith, λ within more. absurd (omega (arith, within)))
header_from-settles n stage (line ∷ lines) =
    elim (group_head_line stage line) as (λ step. group_head_line stage line ≡ step
    → Settles n stage (line ∷ lines) (on_group_step n step (λ next. group_header_from (suc n) next lines))) [
      | Ok (Goes next) ↦ λ goes. goes-settles n stage next line lines (group_header_from (suc n) next lines) goes
          (header_from-settles (suc n) next lines)
      | Ok (Ends header) ↦ λ ends. (
        omega arith,
        omega arith,
        λ more. ap (λ step. on_group_step n step (λ next. group_header_from (suc n) next (lines ++ more))) ends,
      )
      | Err cause ↦ λ refused. (
        omega arith,
        omega arith,
        λ within more. ap (λ step. on_group_step n step (λ next. group_header_from (suc n) next (lines ++ more)))
            refused,
      )
    ] refl

settled : (lines : List (List ℕ)) (found : Result (GroupHeader × ℕ) GroupFault) → Settles 1 Opening lines found
    → IsGroupSettled lines found
settled lines (Ok found) settles = (settles.0, omega (arith, settles.1), settles.2)
settled lines (Err fault) settles = (settles.0, omega (arith, settles.1), λ within. settles.2 (omega (arith, within)))

pub read_group_header-settled : (lines : List (List ℕ)) → IsGroupSettled lines (read_group_header lines)
read_group_header-settled lines = settled lines (read_group_header lines) (header_from-settles 1 Opening lines)
