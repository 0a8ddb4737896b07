-- Whose slot a pass stands in.
use Rattle.std.proofs.Common.{◌≡◌, ℕ, ◌<◌, ◌≤◌, Bool, true, false, Some, None, refl, sym, ap, ◌∙◌, arith, if◌then◌else◌}
use Rattle.std.proofs.Common.{nat_eq, ne_eqb}
use Rattle.std.proofs.lemmas.Bool.{eqb-false}
use Rattle.vms_history.specs.Common.{CpuId, begun_in, owner_in}
use Rattle.vms_history.proofs.Common.{live_is_given}
use Rattle.vms_core.specs.declared.steps.Facts.{Facts}
use Rattle.vms_core.specs.Common.{History, Owns, pages, role}
use Rattle.vms_registers.specs.Slots.{StandsIn, owner_of}
use Rattle.vms_registers.proofs.HeldEvents.{stands-lives}

cpu-owner_of : (cpus slot : ℕ) (c : CpuId) → slot ≤ cpus → owner_of cpus slot ≡ Some c
    → (slot < cpus) × (record { number = slot } ≡ c)
cpu-owner_of cpus slot c slot_in owns = by (nat_eq slot cpus) refl owns
  where
    by : (b : Bool) → nat_eq slot cpus ≡ b → (if b then None else Some (record { number = slot })) ≡ Some c
        → (slot < cpus) × (record { number = slot } ≡ c)
    by true same owns = absurd (cc)
    by false other owns = let differ = eqb-false slot cpus other in (omega arith, cc)

module _ (facts : Facts) (h : History) (held : ℕ → ℕ) (slot p : ℕ)
    (stands : StandsIn pages facts facts.layout.cpus h held slot p) where
  owner-here : owner_in role h p ≡ owner_of facts.layout.cpus slot
  owner-here =
      ap (owner_in role h) (sym stands.here)
      ∙ stands.hold.owner slot (λ none. stands.given (sym stands.here ∙ none))

  -- a pass that stands in the slot of a CPU owns it, and no other
  pub owns-slot : slot < facts.layout.cpus → Owns facts h p (record { number = slot })
  owns-slot below = record {
    owner = owner-here ∙ rw (ne_eqb slot facts.layout.cpus (omega arith)) refl;
    within = below;
  }

  pub slot-owned : (c : CpuId) → Owns facts h p c → (slot < facts.layout.cpus) × (record { number = slot } ≡ c)
  slot-owned c owns = cpu-owner_of facts.layout.cpus slot c stands.slot_in (sym owner-here ∙ owns.owner)

  -- it has begun
  pub number-begun : p ≤ begun_in role h
  number-begun =
      let given = live_is_given pages facts h p stands.legal (stands-lives pages facts facts.layout.cpus h held slot p
      stands) in
      omega (arith, given.1)
