-- A pass may make the steps of a fold.
use Rattle.vms_history.specs.Common.{owner_in}
use Rattle.vms_history.proofs.Common.{base_can_begin}
use Rattle.vms_calls.specs.Common.{MakesFold, IsFold}
use Rattle.vms_core.specs.Common.{pages, role}
use Rattle.vms_calls.proofs.MayBegin.{call-begins}
use Rattle.vms_calls.proofs.FoldRuns.{fold-runs}
use Rattle.vms_calls.proofs.StepRuns.{runs-may}

pub fold-may : MakesFold
fold-may facts h p is_own c living c_in owner nothing =
    call-begins facts p h (λ steps. IsFold facts.layout is_own c steps) (λ steps fold.
    runs-may facts p h living steps
    (fold-runs facts (base_can_begin pages facts h living.legal).layout p (owner_in role h p)
    c c_in is_own owner steps h
    (λ now. Unit {0}) fold nothing tt))
