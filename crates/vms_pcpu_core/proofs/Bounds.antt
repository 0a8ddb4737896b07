-- For other crates too: a local part stays within its batch, and one of an absent CPU stays 0.
use Rattle.std.proofs.Common.{◌≡◌, ℕ, ◌≤◌, [], ◌∷◌, Option, Some, ℤ, pos, unsigned_abs, sym, ap, ◌∙◌, arith, ◌⊎◌, inl}
use Rattle.std.proofs.Common.{inr, ⊎_elim}
use Rattle.std.proofs.lemmas.Bool.{cases_eq}
use Rattle.vms_history.specs.Common.{CpuId, CpuState, Online, Absent, IsCpu}
use Rattle.vms_history.proofs.Common.{owner_may_own}
use Rattle.vms_pcpu_core.specs.declared.steps.PcpuFacts.{PcpuFacts}
use Rattle.vms_pcpu_core.specs.Common.{batch_at, local_at, cpu_at, IsPcpu, percpu, History, IsLegal, numbers_after}
use Rattle.vms_pcpu_core.specs.Common.{BoundsLocals}
use Rattle.vms_pcpu_core.proofs.Changes.{Change}
use Rattle.vms_pcpu_core.proofs.Changes.Change.{rests, grows, takes, adds}
use Rattle.vms_pcpu_core.proofs.Shapes.{batch_at-state_after}
use Rattle.vms_pcpu_core.proofs.Totals.{newest-change}

-- a CPU that is online isn't absent
pub apart : {x : CpuState} → x ≡ Online → x ≡ Absent → ⊥
apart online absent = cc

module _ (cpus batch : ℕ) (who : Option CpuId) (count count' : ℤ) (local local' : ℕ → ℤ)
    (carrying carrying' amount : ℤ) where
  -- a local part after a step: as it was, or 0, or what the owner of the CPU left within the batch
  pub change-local : Change cpus who batch count count' local local' carrying carrying' amount → (c : ℕ)
      → (local' c ≡ local c)
      ⊎ ((local' c ≡ pos 0) ⊎ ((d : CpuId) × (who ≡ Some d) × (d.number ≡ c) × (unsigned_abs (local' c) ≤ batch)))
  change-local (rests counts same carries none) c = inl (same c)
  change-local (grows d is d_in counts others here within carries) c =
      ⊎_elim (λ (at : c ≡ d.number). inr (inr (d, is, sym at, rw at within)))
      (λ other. inl (others c other)) (cases_eq c d.number)
  change-local (takes d d_in counts others here carries none) c =
      ⊎_elim (λ (at : c ≡ d.number). inr (inl (rw at here))) (λ other. inl (others c other)) (cases_eq c d.number)
  change-local (adds counts same carries control) c = inl (same c)

local-within : (facts : PcpuFacts) (h : History) → IsLegal facts h → (c j : ℕ) → IsCpu facts.layout c → IsPcpu facts j
    → unsigned_abs (local_at (numbers_after facts h) c j) ≤ batch_at facts.base j
local-within facts [] legal c j c_in j_in = (legal.locals c c_in j j_in).within
local-within facts (e ∷ h) legal c j c_in j_in =
    let before = local-within facts h legal.0 c j c_in j_in in
    let batches = batch_at-state_after facts h j legal.0 in
    ⊎_elim (λ same. rw same before)
    (⊎_elim (λ none. rw none (omega arith)) (λ grown. rw batches at grown.3))
    (change-local facts.layout.cpus _ _ _ _ (λ i. local_at (numbers_after facts h) i j)
    (λ i. local_at (numbers_after facts (e ∷ h)) i j)
    _ _ _ (newest-change facts e h j legal j_in) c)

absent-none : (facts : PcpuFacts) (h : History) → IsLegal facts h → (c j : ℕ) → IsCpu facts.layout c
    → cpu_at facts c ≡ Absent
    → IsPcpu facts j → local_at (numbers_after facts h) c j ≡ pos 0
absent-none facts [] legal c j c_in is_absent j_in = (legal.locals c c_in j j_in).absent is_absent
absent-none facts (e ∷ h) legal c j c_in is_absent j_in =
    let before = absent-none facts h legal.0 c j c_in is_absent j_in in
    ⊎_elim (λ same. same ∙ before)
    (⊎_elim (λ none. none)
    (λ grown.
    let online : cpu_at facts grown.0.number ≡ Online =
    (owner_may_own percpu facts h e.caller grown.0 legal.0 grown.1).1 in
    absurd (apart (sym (ap (cpu_at facts) grown.2) ∙ online) is_absent)))
    (change-local facts.layout.cpus _ _ _ _ (λ i. local_at (numbers_after facts h) i j)
    (λ i. local_at (numbers_after facts (e ∷ h)) i j)
    _ _ _ (newest-change facts e h j legal j_in) c)

pub locals-bounded : (facts : PcpuFacts) (h : History) → IsLegal facts h → BoundsLocals facts h
locals-bounded facts h legal = record { within = local-within facts h legal; absent = absent-none facts h legal }
