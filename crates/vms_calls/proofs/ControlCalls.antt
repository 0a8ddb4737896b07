-- For other crates too: the control pass may make the steps that set thresholds and marks.
use Rattle.std.proofs.Common.{◌≡◌, ℕ, suc, List, [], ◌∷◌, length, None, ⊎_elim, sym, ◌∙◌, subst, arith}
use Rattle.std.specs.Prelude.{All}
use Rattle.vms_history.specs.Common.{CpuId, Online, ZoneSize, IsCpu, IsZone, IsValidSize, size_at, GivesThresholds}
use Rattle.vms_history.proofs.Common.{base_can_begin}
use Rattle.vms_core.specs.declared.steps.Facts.{Facts}
use Rattle.vms_core.specs.declared.steps.Step.{Step}
use Rattle.vms_core.specs.Common.{IsBase, cpu_at, pages, History, state_after}
use Rattle.vms_calls.specs.Common.{MayMake, ControlsIn, MakesRating, MakesNodeRating, MakesRefresh, Choice, Rates}
use Rattle.vms_calls.specs.Common.{RatesNode, Refreshes}
use Rattle.vms_calls.proofs.Agreement.{mark_at-told}
use Rattle.vms_calls.proofs.ChoiceRanges.{GivesBoth}
use Rattle.vms_calls.proofs.MayBegin.{call-begins}
use Rattle.vms_calls.proofs.RatingRuns.{OccursIn, rating-runs}
use Rattle.vms_calls.proofs.StepRuns.{Runs, runs-may}
use Rattle.vms_core.proofs.Common.{cpu_at-state_after}
use Rattle.vms_calls.proofs.VisitRuns.{node-runs, refresh-runs}

all-one_of : (P : CpuId → Type 0) (c : CpuId) (cs : List CpuId) → All P cs → OccursIn c cs → P c
all-one_of P c [] all is = absurd is
all-one_of P c (d ∷ ds) all is = ⊎_elim
    (λ (same : c ≡ d). subst P (sym same) (all 0 d (omega arith)))
    (λ (later : OccursIn c ds). all-one_of P c ds (λ n e less. all (suc n) e (omega arith)) later)
    is

module _ (facts : Facts) (h : History) (p : ℕ) (controls : ControlsIn facts h p) where
  pub base : IsBase facts
  base = base_can_begin pages facts h controls.living.legal

  pub valid_sizes : (z : ℕ) → IsZone facts.layout z → IsValidSize (size_at facts.sizes z)
  valid_sizes z zone = base.sizes z (record { managed = 0; min = 0; low = 0; high = 0 }) (let each =
      base.one_size_each in omega arith)

  pub control-may : (steps : List Step) → Runs facts p None steps h (λ then. Unit {0}) → MayMake facts p h steps
  control-may steps runs = runs-may facts p h controls.living steps
      (subst (λ who. Runs facts p who steps h (λ then. Unit {0})) (sym controls.control) runs)

pub rating-may : (Chooses : Choice) → GivesBoth Chooses → MakesRating Chooses
rating-may Chooses gives facts h p online g t m controls online_now few zone stands =
    call-begins facts p h (λ steps. Rates facts p online Chooses g t m h steps) (λ steps rates.
    let base = base facts h p controls in
    let legal = controls.living.legal in
    let most = base.layout.cpus_most in
    let size = valid_sizes facts h p controls in
    control-may facts h p controls steps
    (subst (λ ks. Runs facts p None ks h (λ then. Unit {0})) (sym rates.in_order)
    (rating-runs facts base.layout p online (omega arith) size g zone h (λ then. Unit {0}) m rates.usual t
    (λ c is. let known = all-one_of (λ c.
    IsCpu facts.layout c.number × (cpu_at (state_after facts h) c.number ≡ Online)) c online online_now is in
    (known.0, sym (cpu_at-state_after facts h legal c.number known.0) ∙ known.1))
    (sym (mark_at-told facts h legal g) ∙ stands)
    (λ some. (gives (size_at facts.sizes g) (length online) t rates.usual (size g zone) some (omega arith)
    rates.chosen).1)
    (λ some. (gives (size_at facts.sizes g) (length online) t rates.usual (size g zone) some (omega arith)
    rates.chosen).0)
    (λ known. tt))))

pub node-may : (Chooses : Choice) → GivesBoth Chooses → MakesNodeRating Chooses
node-may Chooses gives facts h p n controls =
    call-begins facts p h (λ steps. RatesNode facts Chooses n p h steps) (λ steps rates.
    control-may facts h p controls steps
    (node-runs facts (base facts h p controls).layout (valid_sizes facts h p controls)
    p Chooses gives n h steps rates))

pub refresh-may : (normal : ZoneSize → ℕ → ℕ → Type 0) → GivesThresholds normal → MakesRefresh normal
refresh-may normal normals facts h p controls =
    call-begins facts p h (λ steps. Refreshes facts normal p h steps) (λ steps refresh.
    control-may facts h p controls steps
    (refresh-runs facts (base facts h p controls).layout (valid_sizes facts h p controls)
    p normal normals h steps refresh))
