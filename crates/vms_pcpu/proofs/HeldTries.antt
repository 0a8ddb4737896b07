-- A call that gave a counter's lock up has changed nothing: its pass is ready again, with the volumes that it had.
use Rattle.std.proofs.Common.{◌≡◌, ◌≢◌, ◌≤◌, ◌+ℤ◌, ℕ, nat_eq, List, [], ◌∷◌, ◌++◌, ℤ, pos, unsigned_abs, refl, sym}
use Rattle.std.proofs.Common.{false, ◌∙◌, subst}
use Rattle.vms_history.specs.Common.{CpuId, PcpuId}
use Rattle.vms_history.proofs.Common.{if-either}
use Rattle.vms_pcpu_core.specs.declared.steps.PcpuFacts.{PcpuFacts}
use Rattle.vms_pcpu_core.specs.declared.steps.PcpuStep.{PcpuStep}
use Rattle.vms_pcpu_core.specs.declared.steps.PcpuStep.TheVariants.{LoadL, LoadC, Missed}
use Rattle.vms_pcpu_core.specs.Common.{AddsAmount, Probes, added_through, as_is, carried_through, holds_through, large}
use Rattle.vms_pcpu_core.specs.Common.{narrow, percpu, size_of}
use Rattle.vms_pcpu.specs.Common.{GivesUpAdd, GivesUpLimitedAdd, IsCpuPass}
use Rattle.vms_pcpu.proofs.ReadyPasses.{owns-nothing}
use Rattle.vms_seats.specs.Common.{Pass, Made, MadeOne}
use Rattle.vms_seats.proofs.Common.{calls-next}

module _ (j : PcpuId) where
  -- loads and one missed try hold no lock, carry nothing and add nothing
  nothing-adds : (steps : List PcpuStep) → ((i : ℕ) → holds_through i steps false ≡ false)
      → ((i : ℕ) → carried_through i steps (pos 0) ≡ pos 0) → ((i : ℕ) → added_through as_is i steps (pos 0) ≡ pos 0)
      → ((i : ℕ) → added_through size_of i steps (pos 0) ≡ pos 0) → AddsAmount j (pos 0) steps
  nothing-adds steps held carried amounts sizes = record {
    no_lock = held;
    nothing_carried = carried;
    amounts = λ i. amounts i ∙ sym (if-either (nat_eq j.number i) (pos 0));
    sizes = λ i. sizes i ∙ sym (if-either (nat_eq j.number i) (pos 0));
  }

  missed-adds : AddsAmount j (pos 0) (Missed j ∷ [])
  missed-adds = nothing-adds (Missed j ∷ []) (λ i. refl) (λ i. refl) (λ i. refl) (λ i. refl)

  loaded-adds : (own : CpuId) (l : ℤ) → AddsAmount j (pos 0) (LoadL j own l ∷ Missed j ∷ [])
  loaded-adds own l =
      nothing-adds (LoadL j own l ∷ Missed j ∷ []) (λ i. refl) (λ i. refl) (λ i. refl) (λ i. refl)

  probed-adds : (batch unknown : ℕ) (own : CpuId) (limit amount : ℤ) (probing : List PcpuStep)
      → Probes batch unknown limit own j amount probing → AddsAmount j (pos 0) (probing ++ Missed j ∷ [])
  probed-adds batch unknown own limit amount probing (large l above) = loaded-adds own l
  probed-adds batch unknown own limit amount probing (narrow l v fits small) =
      nothing-adds (LoadL j own l ∷ LoadC j v ∷ Missed j ∷ []) (λ i. refl) (λ i. refl) (λ i. refl) (λ i. refl)

  module _ (new old : Pass PcpuFacts PcpuStep) (cpu : CpuId) (volume : List ℕ) (mine : IsCpuPass old cpu volume) where
    pub ready-missed : MadeOne percpu new old (Missed j) → IsCpuPass new cpu volume
    ready-missed made = owns-nothing new old j (Missed j ∷ []) made.all missed-adds cpu volume mine

    pub ready-no_add : (batch : ℕ) (own : CpuId) (amount : ℤ) (steps : List PcpuStep)
        → GivesUpAdd batch own j amount steps → Made percpu new old steps → IsCpuPass new cpu volume
    ready-no_add batch own amount steps gives made =
        owns-nothing new old j steps made
        (subst (AddsAmount j (pos 0)) (sym gives.2) (loaded-adds own gives.0)) cpu volume mine

    pub ready-no_limited_add : (batch unknown : ℕ) (own : CpuId) (limit amount : ℤ) (steps : List PcpuStep)
        → GivesUpLimitedAdd batch unknown own j limit amount steps → Made percpu new old steps
        → IsCpuPass new cpu volume
    ready-no_limited_add batch unknown own limit amount steps gives made =
        owns-nothing new old j steps made
        (subst (AddsAmount j (pos 0)) (sym gives.3)
        (probed-adds batch unknown own limit amount gives.0 gives.2)) cpu volume mine

-- an addition that loaded its local part gives up
pub gave-up_add : (batch : ℕ) (own : CpuId) (j : PcpuId) (amount l : ℤ) (new loaded old : Pass PcpuFacts PcpuStep)
    → MadeOne percpu loaded old (LoadL j own l) → batch ≤ unsigned_abs (l +ℤ amount)
    → MadeOne percpu new loaded (Missed j)
    → (steps : List PcpuStep) × GivesUpAdd batch own j amount steps × Made percpu new old steps
gave-up_add batch own j amount l new loaded old load reached missed = (
  LoadL j own l ∷ Missed j ∷ [],
  (l, reached, refl),
  calls-next percpu new loaded old (LoadL j own l ∷ []) (Missed j) missed load.all,
)

-- a limited addition that has probed gives up
pub gave-up_limited_add : (batch unknown : ℕ) (own : CpuId) (j : PcpuId) (limit amount : ℤ) (probing : List PcpuStep)
    (new probed old : Pass PcpuFacts PcpuStep) → amount ≢ pos 0 → Probes batch unknown limit own j amount probing
    → Made percpu probed old probing → MadeOne percpu new probed (Missed j)
    → (steps : List PcpuStep) × GivesUpLimitedAdd batch unknown own j limit amount steps × Made percpu new old steps
gave-up_limited_add batch unknown own j limit amount probing new probed old some probes made missed = (
  probing ++ Missed j ∷ [],
  (probing, some, probes, refl),
  calls-next percpu new probed old probing (Missed j) missed made,
)
