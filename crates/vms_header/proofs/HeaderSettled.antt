-- For other crates too: a header rests on the lines up to its end, or up to its fault.
use Rattle.std.proofs.Common.{ℕ, suc, ◌≡◌, ◌+◌, ◌<◌, ◌≤◌, List, [], ◌∷◌, ◌++◌, length, Result, Ok, Err, refl, ap, ◌∙◌}
use Rattle.std.proofs.Common.{arith}
use Rattle.vms_base.specs.declared.headers.Header.{Header}
use Rattle.vms_header.specs.Common.{Fault, Stage, head_line, header_from, on_step, read_header, Opening, Goes, Ends}
use Rattle.vms_header.specs.Common.{IsSettled}

-- what lines from line n on answer, whatever comes after them
abbrev Settles : ℕ → Stage → List (List ℕ) → Result (Header × ℕ) Fault → Type 0
Settles n stage lines (Ok found) =
    (n ≤ found.1) × (found.1 < n + length lines) × ((more : List (List ℕ)) → header_from n stage (lines ++ more)
    ≡ Ok found)
Settles n stage lines (Err fault) =
    (n ≤ fault.line) × (fault.line ≤ n + length lines)
    × (fault.line < n + length lines → (more : List (List ℕ)) → header_from n stage (lines ++ more) ≡ Err fault)

goes-settles : (n : ℕ) (stage next : Stage) (line : List ℕ) (lines : List (List ℕ)) (found : Result (Header × ℕ) Fault)
    → head_line stage line ≡ Ok (Goes next) → Settles (suc n) next lines found → Settles n stage (line ∷ lines) found
goes-settles n stage next line lines (Ok found) goes settles = (
  omega (arith, settles.0),
  omega (arith, settles.1),
  λ more. ap (λ step. on_step n step (λ next. header_from (suc n) next (lines ++ more))) goes ∙ settles.2 more,
)
goes-settles n stage next line lines (Err fault) goes settles = (
  omega (arith, settles.0),
  omega (arith, settles.1),
  λ within more. ap (λ step. on_step n step (λ next. header_from (suc n) next (lines ++ more))) goes
      ∙ settles.2 (omega (arith, within)) more,
)

pub header_from-settles : (n : ℕ) (stage : Stage) (lines : List (List ℕ))
    → Settles n stage lines (header_from n stage lines)
header_from-settles n stage [] = (omega arith, omega arith, λ within more. absurd (omega (arith, within)))
header_from-settles n stage (line ∷ lines) =
    elim (head_line stage line) as (λ step. head_line stage line ≡ step
    → Settles n stage (line ∷ lines) (on_step n step (λ next. header_from (suc n) next lines))) [
      | Ok (Goes next) ↦ λ goes. goes-settles n stage next line lines (header_from (suc n) next lines) goes
          (header_from-settles (suc n) next lines)
      | Ok (Ends draft) ↦ λ ends. (
        omega arith,
        omega arith,
        λ more. ap (λ step. on_step n step (λ next. header_from (suc n) next (lines ++ more))) ends,
      )
      | Err cause ↦ λ refused. (
        omega arith,
        omega arith,
        λ within more. ap (λ step. on_step n step (λ next. header_from (suc n) next (lines ++ more))) refused,
      )
    ] refl

settled : (lines : List (List ℕ)) (found : Result (Header × ℕ) Fault) → Settles 1 Opening lines found
    → IsSettled lines found
settled lines (Ok found) settles = (settles.0, omega (arith, settles.1), settles.2)
settled lines (Err fault) settles = (settles.0, omega (arith, settles.1), λ within. settles.2 (omega (arith, within)))

pub read_header-settled : (lines : List (List ℕ)) → IsSettled lines (read_header lines)
read_header-settled lines = settled lines (read_header lines) (header_from-settles 1 Opening lines)
