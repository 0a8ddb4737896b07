-- For other crates too: the slot of a pass tells which CPU it owns, and a history of page counters with its next step
-- is legal.
use Rattle.std.proofs.Common.{◌≡◌, ◌↔◌, ℕ, ◌<◌, ◌≤◌, Bool, true, false, Option, Some, None, ◌∷◌, refl, sym, ap, ◌∙◌}
use Rattle.std.proofs.Common.{arith, if◌then◌else◌, nat_eq, eqb-true, eq-eqb, ne_eqb}
use Rattle.std.proofs.lemmas.Bool.{eqb-false}
use Rattle.vms_history.specs.Common.{CpuId, owner_in}
use Rattle.vms_history.proofs.Common.{base_can_begin}
use Rattle.vms_core.specs.declared.steps.Facts.{Facts}
use Rattle.vms_core.specs.declared.steps.Step.{Step}
use Rattle.vms_core.specs.Common.{History, IsBase, IsControl, IsLegal, KeepsLaws, Owns, pages, role}
use Rattle.vms_core.proofs.Common.{laws-kept}
use Rattle.vms_registers.specs.Slots.{MayWork, StandsIn, owner_of}
use Rattle.vms_registers.proofs.HeldEvents.{stands-lives}

-- a slot below the number of CPUs is that of a CPU, and the last one is that of the control pass
module _ (cpus slot : ℕ) where
  pub owner_of-cpu : slot < cpus → owner_of cpus slot ≡ Some (record { number = slot })
  owner_of-cpu below = rw (ne_eqb slot cpus (omega arith)) refl

  pub owner_of-control : slot ≡ cpus → owner_of cpus slot ≡ None
  owner_of-control is = rw (eq-eqb slot cpus is) refl

  pub cpu-owner_of : slot ≤ cpus → (c : CpuId) → owner_of cpus slot ≡ Some c
      → (slot < cpus) × (c ≡ record { number = slot })
  cpu-owner_of slot_in c owns = by (nat_eq slot cpus) refl owns
    where
      by : (b : Bool) → nat_eq slot cpus ≡ b
          → (if b then None else Some (record { number = slot })) ≡ Some c
          → (slot < cpus) × (c ≡ record { number = slot })
      by true same owns = absurd (cc)
      by false other owns = let differ = eqb-false slot cpus other in (omega arith, cc)

  pub control-owner_of : owner_of cpus slot ≡ None → slot ≡ cpus
  control-owner_of none = by (nat_eq slot cpus) refl none
    where
      by : (b : Bool) → nat_eq slot cpus ≡ b
          → ◌≡◌ {A = Option CpuId} (if b then None else Some (record { number = slot })) None → slot ≡ cpus
      by true same none = eqb-true slot cpus same
      by false other none = absurd (cc)

module _ (facts : Facts) (h : History) (held : ℕ → ℕ) (slot p : ℕ)
    (stands : StandsIn pages facts facts.layout.cpus h held slot p) where
  pub base-here : IsBase facts
  base-here = base_can_begin pages facts h stands.legal

  pub laws-here : KeepsLaws facts h
  laws-here = laws-kept facts h stands.legal

  pub owner-here : owner_in role h p ≡ owner_of facts.layout.cpus slot
  owner-here =
      ap (owner_in role h) (sym stands.here)
      ∙ stands.hold.owner slot (λ none. stands.given (sym stands.here ∙ none))

  -- the pass owns the CPU of its slot, and no other
  pub owns-here : slot < facts.layout.cpus → Owns facts h p (record { number = slot })
  owns-here below = record { owner = owner-here ∙ owner_of-cpu facts.layout.cpus slot below; within = below }

  pub owned-here : (c : CpuId) → Owns facts h p c → (slot < facts.layout.cpus) × (c ≡ record { number = slot })
  owned-here c owns =
      cpu-owner_of facts.layout.cpus slot stands.slot_in c (sym owner-here ∙ owns.owner)

  -- or it is the control pass
  pub control-here : (slot ≡ facts.layout.cpus) ↔ IsControl h p
  control-here = (
    λ is. owner-here ∙ owner_of-control facts.layout.cpus slot is,
    λ none. control-owner_of facts.layout.cpus slot (sym owner-here ∙ none),
  )

module _ (facts : Facts) (h : History) (held : ℕ → ℕ) (slot p : ℕ) (step : Step)
    (may : MayWork pages facts facts.layout.cpus h held slot p step) where
  -- the history with the step is legal, and its laws hold
  pub legal-next : IsLegal facts (record { caller = p; step = step } ∷ h)
  legal-next = (
    may.stands.legal,
    rw may.works (may.stands.given, stands-lives pages facts facts.layout.cpus h held slot p may.stands),
    may.meets,
  )

  pub laws-next : KeepsLaws facts (record { caller = p; step = step } ∷ h)
  laws-next = laws-kept facts (record { caller = p; step = step } ∷ h) legal-next
