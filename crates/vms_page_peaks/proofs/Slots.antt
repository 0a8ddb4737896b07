-- The pass in a slot owns the CPU of this number.
use Rattle.std.proofs.Common.{◌≡◌, ℕ, ◌<◌, Bool, true, false, Some, None, ap, arith, if◌then◌else◌, nat_eq, refl, sym}
use Rattle.std.proofs.Common.{◌∙◌}
use Rattle.std.proofs.lemmas.Bool.{eqb-false}
use Rattle.vms_history.specs.Common.{CpuId, owner_in}
use Rattle.vms_core.specs.declared.steps.Facts.{Facts}
use Rattle.vms_core.specs.Common.{History, pages, role}
use Rattle.vms_registers.specs.Slots.{StandsIn, owner_of}

pub slot-owned : (facts : Facts) (h : History) (held : ℕ → ℕ) (slot p : ℕ)
    → StandsIn pages facts facts.layout.cpus h held slot p → (c : CpuId) → owner_in role h p ≡ Some c
    → (slot < facts.layout.cpus) × (c.number ≡ slot)
slot-owned facts h held slot p stands c owns =
    by (nat_eq slot facts.layout.cpus) refl (sym owner ∙ owns)
  where
    owner : owner_in role h p ≡ owner_of facts.layout.cpus slot
    owner =
        ap (owner_in role h) (sym stands.here)
        ∙ stands.hold.owner slot (λ none. stands.given (sym stands.here ∙ none))

    by : (b : Bool) → nat_eq slot facts.layout.cpus ≡ b
        → (if b then None else Some (record { number = slot })) ≡ Some c
        → (slot < facts.layout.cpus) × (c.number ≡ slot)
    by true control is = absurd cc
    by false other is =
        let differ = eqb-false slot facts.layout.cpus other in
        let same : record { number = slot } ≡ c = cc in
        let within = stands.slot_in in
        (omega arith, sym (ap (λ (d : CpuId). d.number) same))
