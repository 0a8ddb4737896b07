-- The conditions of steps on the event counters, as the registers show them.
use Rattle.std.proofs.Common.{◌≡◌, ◌≢◌, ◌↔◌, ℕ, ◌+◌, ◌<◌, ◌≤◌, Bool, true, false, Option, Some, None, pos, inl, inr}
use Rattle.std.proofs.Common.{refl, sym, ap, ◌∙◌, arith, if◌then◌else◌, nat_eq, eqb-true, eq-eqb, ne_eqb}
use Rattle.std.proofs.lemmas.Bool.{cases_lt, eqb-false}
use Rattle.vms_history.specs.Common.{CpuId, EventId, Dead, IsCpu, most_volume, own, owner_in}
use Rattle.vms_history.proofs.Common.{base_can_begin}
use Rattle.vms_cells.specs.Cells.{at}
use Rattle.vms_event_core.specs.declared.steps.EventFacts.{EventFacts}
use Rattle.vms_event_core.specs.Common.{History, IsEvent, IsLowestOnline, carried, cpu_at, events, role, spent}
use Rattle.vms_event_core.specs.Common.{state_after, word_at}
use Rattle.vms_event_core.specs.Conditions.{AddsCarried, Counts, FindsWord, TakesWord}
use Rattle.vms_event_core.proofs.Common.{HasShape-state_after}
use Rattle.vms_registers.specs.Slots.{StandsIn, owner_of}
use Rattle.vms_registers.proofs.HeldEvents.{held_events-here}
use Rattle.vms_event_registers.specs.declared.registers.EventRegisters.{EventRegisters}
use Rattle.vms_event_registers.specs.Keeps.{IsKept, KeepsEvents}

-- one CPU alone is the lowest-numbered one that is online
lowest-one : (facts : EventFacts) (c d : ℕ) → IsLowestOnline facts c → IsLowestOnline facts d → c ≡ d
lowest-one facts c d first second = elim (cases_lt c d) [
  | inl below ↦ absurd (second.lowest c below first.online)
  | inr least ↦ elim (cases_lt d c) [
    | inl below ↦ absurd (first.lowest d below second.online)
    | inr most ↦ omega arith
  ]
]

-- a slot below the number of CPUs is that of a CPU, and the last one is that of the control pass
module _ (cpus slot : ℕ) (slot_in : slot ≤ cpus) where
  pub owner_of-cpu : slot < cpus → owner_of cpus slot ≡ Some (record { number = slot })
  owner_of-cpu below = rw (ne_eqb slot cpus (omega arith)) refl

  pub owner_of-control : slot ≡ cpus → owner_of cpus slot ≡ None
  owner_of-control is = rw (eq-eqb slot cpus is) refl

  cpu-owner_of : (c : CpuId) → owner_of cpus slot ≡ Some c → (slot < cpus) × (c.number ≡ slot)
  cpu-owner_of c owns = by (nat_eq slot cpus) refl owns
    where
      by : (b : Bool) → nat_eq slot cpus ≡ b
          → (if b then None else Some (record { number = slot })) ≡ Some c → (slot < cpus) × (c.number ≡ slot)
      by true same owns = absurd (cc)
      by false other owns =
          let differ = eqb-false slot cpus other in
          let is : record { number = slot } ≡ c = cc in
          (omega arith, sym (ap (λ (d : CpuId). d.number) is))

  control-owner_of : owner_of cpus slot ≡ None → slot ≡ cpus
  control-owner_of none = by (nat_eq slot cpus) refl none
    where
      by : (b : Bool) → nat_eq slot cpus ≡ b
          → ◌≡◌ {A = Option CpuId} (if b then None else Some (record { number = slot })) None → slot ≡ cpus
      by true same none = eqb-true slot cpus same
      by false other none = absurd (cc)

module _ (facts : EventFacts) (h : History) (held : ℕ → ℕ) (slot p : ℕ)
    (stands : StandsIn events facts facts.layout.cpus h held slot p) (r : EventRegisters)
    (keeps : KeepsEvents facts h held r) where
  pub owner-here : owner_in role h p ≡ owner_of facts.layout.cpus slot
  owner-here =
      ap (owner_in role h) (sym stands.here)
      ∙ stands.hold.owner slot (λ none. stands.given (sym stands.here ∙ none))

  pub kept : IsKept facts r
  kept = record {
    base = base_can_begin events facts h stands.legal;
    shaped = rw keeps.state (HasShape-state_after facts h stands.legal);
    spent_cells = keeps.spent_cells;
    carried_cells = keeps.carried_cells;
  }

  pub carried-here : (k : ℕ) → IsEvent k → at r.carried slot k (pos 0) ≡ carried k (own h p)
  carried-here k k_in =
      keeps.carries slot k stands.slot_in k_in
      ∙ ap (carried k) (held_events-here events facts facts.layout.cpus h held slot p stands)

  pub counts : (k : EventId) (n : ℕ)
      → ((slot < facts.layout.cpus) × IsEvent k.number × (at r.spent slot k.number 0 + n ≤ most_volume))
      ↔ Counts h p k n
  counts k n = (
    λ may. record {
      cpu = record { number = slot };
      owns = owner-here ∙ owner_of-cpu facts.layout.cpus slot stands.slot_in may.0;
      event = may.1;
      affordable = omega (arith, keeps.counts slot k.number may.0 may.1, may.2);
    },
    λ may.
        let is = cpu-owner_of facts.layout.cpus slot stands.slot_in may.cpu (sym owner-here ∙ may.owns) in
        let stood = keeps.counts slot k.number is.0 may.event in
        let same = ap (λ c. spent h c k.number) is.1 in
        (is.0, may.event, omega (arith, may.affordable, stood, same)),
  )

  pub finds : (c : CpuId) (k : EventId) (v : ℕ)
      → (IsCpu facts.layout c.number × IsEvent k.number × (word_at r.state c.number k.number ≡ v))
      ↔ FindsWord facts (state_after facts h) c k v
  finds c k v = (
    λ may. record { cpu = may.0; event = may.1; value = rw (← keeps.state) may.2 },
    λ may. (may.cpu, may.event, rw keeps.state may.value),
  )

  pub takes : (c : CpuId) (k : EventId) (v : ℕ)
      → ((slot ≡ facts.layout.cpus) × (cpu_at facts c.number ≡ Dead) × IsCpu facts.layout c.number × IsEvent k.number
      × (word_at r.state c.number k.number ≡ v))
      ↔ TakesWord facts h (state_after facts h) p c k v
  takes c k v = (
    λ may. record {
      control = owner-here ∙ owner_of-control facts.layout.cpus slot stands.slot_in may.0;
      dead = may.1;
      finds = (finds c k v).0 (may.2, may.3, may.4);
    },
    λ may.
        let found = (finds c k v).1 may.finds in (
          control-owner_of facts.layout.cpus slot stands.slot_in (sym owner-here ∙ may.control),
          may.dead,
          found.0,
          found.1,
          found.2,
        ),
  )

  pub adds : (c : CpuId) (k : EventId) (v : ℕ)
      → ((c.number ≡ r.lowest.number) × IsEvent k.number × (at r.carried slot k.number (pos 0) ≡ pos v) × (v ≢ 0))
      ↔ AddsCarried facts h p c k v
  adds c k v = (
    λ may. record {
      cpu = rw may.0 keeps.lowest_in;
      lowest = rw may.0 keeps.lowest;
      event = may.1;
      carries = sym (carried-here k.number may.1) ∙ may.2;
      some = may.3;
    },
    λ may. (
      lowest-one facts c.number r.lowest.number may.lowest keeps.lowest,
      may.event,
      carried-here k.number may.event ∙ may.carries,
      may.some,
    ),
  )
