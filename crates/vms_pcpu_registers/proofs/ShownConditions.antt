-- The conditions of steps on the percpu counters, as the registers show them.
use Rattle.std.proofs.Common.{◌≡◌, ◌↔◌, ℕ, ◌+◌, ◌<◌, ◌≤◌, Bool, true, false, Option, Some, None, ℤ, pos, ◌+ℤ◌, ◌-ℤ◌}
use Rattle.std.proofs.Common.{unsigned_abs, refl, sym, ap, subst, ◌∙◌, arith, if◌then◌else◌, nat_eq, ne_eqb}
use Rattle.std.proofs.lemmas.Bool.{eqb-false}
use Rattle.vms_history.specs.Common.{CpuId, PcpuId, IsCpu, most_volume, own, owner_in}
use Rattle.vms_history.proofs.Common.{base_can_begin}
use Rattle.vms_cells.specs.Cells.{at}
use Rattle.vms_pcpu_core.specs.declared.steps.PcpuFacts.{PcpuFacts}
use Rattle.vms_pcpu_core.specs.Common.{AddsToCount, AddsToLocal, GivesBack, History, IsPcpu, LoadsCount, LoadsLocal}
use Rattle.vms_pcpu_core.specs.Common.{LockedState, MayAdd, MayTake, MissesLock, TakesLocal, WinsLock, batch_at}
use Rattle.vms_pcpu_core.specs.Common.{carried, count_at, held_at, holds_lock, local_at, percpu, role, spent}
use Rattle.vms_pcpu_core.specs.Common.{state_after}
use Rattle.vms_pcpu_core.proofs.Common.{HasShape-state_after}
use Rattle.vms_registers.specs.Slots.{StandsIn, owner_of}
use Rattle.vms_registers.proofs.HeldEvents.{held_events-here}
use Rattle.vms_pcpu_registers.specs.declared.registers.PcpuRegisters.{PcpuRegisters}
use Rattle.vms_pcpu_registers.specs.Keeps.{IsKept, KeepsPercpu, MayAddBeyond, mark_of, state_of}

-- a slot below the number of CPUs is that of a CPU
module _ (cpus slot : ℕ) (slot_in : slot ≤ cpus) where
  pub owner_of-cpu : slot < cpus → owner_of cpus slot ≡ Some (record { number = slot })
  owner_of-cpu below = rw (ne_eqb slot cpus (omega arith)) refl

  pub cpu-owner_of : (c : CpuId) → owner_of cpus slot ≡ Some c → (slot < cpus) × (c.number ≡ slot)
  cpu-owner_of c owns = by (nat_eq slot cpus) refl owns
    where
      by : (b : Bool) → nat_eq slot cpus ≡ b
          → (if b then None else Some (record { number = slot })) ≡ Some c → (slot < cpus) × (c.number ≡ slot)
      by true same owns = absurd (cc)
      by false other owns =
          let differ = eqb-false slot cpus other in
          let is : record { number = slot } ≡ c = cc in
          (omega arith, sym (ap (λ (d : CpuId). d.number) is))

-- the mark of a lock that is held is 1
marked : (b : Bool) → mark_of b ≡ pos 1 → b ≡ true
marked true is = refl
marked false is = absurd cc

pub unmarked : (b : Bool) → mark_of b ≡ pos 0 → b ≡ false
unmarked true is = absurd cc
unmarked false is = refl

module _ (facts : PcpuFacts) (h : History) (held : ℕ → ℕ) (slot p : ℕ)
    (stands : StandsIn percpu facts facts.layout.cpus h held slot p) (r : PcpuRegisters)
    (keeps : KeepsPercpu facts h held r) where
  pub owner-here : owner_in role h p ≡ owner_of facts.layout.cpus slot
  owner-here =
      ap (owner_in role h) (sym stands.here)
      ∙ stands.hold.owner slot (λ none. stands.given (sym stands.here ∙ none))

  pub kept : IsKept facts r
  kept = record {
    base = base_can_begin percpu facts h stands.legal;
    shaped = rw keeps.state (HasShape-state_after facts h stands.legal);
    spent_cells = keeps.spent_cells;
    carried_cells = keeps.carried_cells;
    lock_cells = keeps.lock_cells;
  }

  pub carried-here : (j : ℕ) → IsPcpu facts j → at r.carried slot j (pos 0) ≡ carried j (own h p)
  carried-here j j_in =
      keeps.carries slot j stands.slot_in j_in
      ∙ ap (carried j) (held_events-here percpu facts facts.layout.cpus h held slot p stands)

  pub mark-here : (j : ℕ) → IsPcpu facts j → at r.locks slot j (pos 0) ≡ mark_of (holds_lock j (own h p))
  mark-here j j_in =
      keeps.holds slot j stands.slot_in j_in
      ∙ ap (λ (o : History). mark_of (holds_lock j o))
      (held_events-here percpu facts facts.layout.cpus h held slot p stands)

  pub holding-here : (j : ℕ) → IsPcpu facts j → (at r.locks slot j (pos 0) ≡ pos 1) ↔ (holds_lock j (own h p) ≡ true)
  holding-here j j_in = (
    λ marks. marked (holds_lock j (own h p)) (sym (mark-here j j_in) ∙ marks),
    λ holds. mark-here j j_in ∙ ap mark_of holds,
  )

  pub adds_local : (j : PcpuId) (a : ℤ)
      → ((slot < facts.layout.cpus) × IsPcpu facts j.number
      × (unsigned_abs (local_at r.numbers slot j.number +ℤ a) ≤ batch_at r.numbers j.number)
      × (at r.spent slot j.number 0 + unsigned_abs a ≤ most_volume))
      ↔ AddsToLocal facts h (state_after facts h) p j a
  adds_local j a = (
    λ may. record {
      counter = may.1;
      cpu = record { number = slot };
      owner = owner-here ∙ owner_of-cpu facts.layout.cpus slot stands.slot_in may.0;
      within = rw (← keeps.state) may.2;
      affordable = omega (arith, keeps.spends slot j.number may.0 may.1, may.3);
    },
    λ may.
        let is = cpu-owner_of facts.layout.cpus slot stands.slot_in may.cpu (sym owner-here ∙ may.owner) in
        let stood = keeps.spends slot j.number is.0 may.counter in
        let same = ap (λ c. spent h c j.number) is.1 in (
          is.0,
          may.counter,
          subst (λ n. unsigned_abs (local_at r.numbers n j.number +ℤ a) ≤ batch_at r.numbers j.number) is.1
              (subst (λ (s : LockedState). unsigned_abs (local_at s.numbers may.cpu.number j.number +ℤ a)
              ≤ batch_at s.numbers j.number)
              (sym keeps.state) may.within),
          omega (arith, may.affordable, stood, same),
        ),
  )

  pub finds_local : (j : PcpuId) (c : CpuId) (v : ℤ)
      → (IsPcpu facts j.number × IsCpu facts.layout c.number × (local_at r.numbers c.number j.number ≡ v))
      ↔ LoadsLocal facts (state_after facts h) j c v
  finds_local j c v = (
    λ may. record { counter = may.0; cpu = may.1; value = rw (← keeps.state) may.2 },
    λ may. (
      may.counter,
      may.cpu,
      ap (λ (s : LockedState). local_at s.numbers c.number j.number) keeps.state ∙ may.value,
    ),
  )

  pub finds_count : (j : PcpuId) (v : ℤ) → (IsPcpu facts j.number × (count_at r.numbers j.number ≡ v))
      ↔ LoadsCount facts (state_after facts h) j v
  finds_count j v = (
    λ may. record { counter = may.0; value = rw (← keeps.state) may.1 },
    λ may. (may.counter, ap (λ (s : LockedState). count_at s.numbers j.number) keeps.state ∙ may.value),
  )

  pub wins : (j : PcpuId) → (IsPcpu facts j.number × (held_at (state_of r) j.number ≡ false))
      ↔ WinsLock facts (state_after facts h) j
  wins j = (
    λ may. record { counter = may.0; free = ap (λ (s : LockedState). held_at s j.number) (sym keeps.state) ∙ may.1 },
    λ may. (may.counter, ap (λ (s : LockedState). held_at s j.number) keeps.state ∙ may.free),
  )

  pub misses : (j : PcpuId) → (IsPcpu facts j.number × (held_at (state_of r) j.number ≡ true))
      ↔ MissesLock facts (state_after facts h) j
  misses j = (
    λ may. record { counter = may.0; taken = ap (λ (s : LockedState). held_at s j.number) (sym keeps.state) ∙ may.1 },
    λ may. (may.counter, ap (λ (s : LockedState). held_at s j.number) keeps.state ∙ may.taken),
  )

  pub takes : (j : PcpuId) (c : CpuId) (v : ℤ)
      → ((at r.locks slot j.number (pos 0) ≡ pos 1) × MayTake facts (owner_of facts.layout.cpus slot) c
      × IsPcpu facts j.number × IsCpu facts.layout c.number × (local_at r.numbers c.number j.number ≡ v))
      ↔ TakesLocal facts h (state_after facts h) p j c v
  takes j c v = (
    λ may.
        let found = (finds_local j c v).0 (may.2, may.3, may.4) in
        record {
          counter = may.2;
          cpu = may.3;
          holding = (holding-here j.number may.2).0 may.0;
          whose = subst (λ (w : Option CpuId). MayTake facts w c) (sym owner-here) may.1;
          value = found.value;
        },
    λ may.
        let found = (finds_local j c v).1 (record { counter = may.counter; cpu = may.cpu; value = may.value }) in (
          (holding-here j.number may.counter).1 may.holding,
          subst (λ (w : Option CpuId). MayTake facts w c) owner-here may.whose,
          found.0,
          found.1,
          found.2,
        ),
  )

  -- what may be added to a shared part beyond what is carried
  beyond : (w : Option CpuId) (j : ℕ) (a : ℤ)
      → ((c : CpuId) → w ≡ Some c → at r.spent c.number j 0 ≡ spent h c.number j)
      → MayAddBeyond w r.spent j a ↔ MayAdd h w j a
  beyond (Some c) j a same =
      let stood : at r.spent c.number j 0 ≡ spent h c.number j = same c refl in
      (λ may. omega (arith, stood, may), λ may. omega (arith, stood, may))
  beyond None j a same = (λ may. may, λ may. may)

  beyond-here : (j : ℕ) → IsPcpu facts j → (a : ℤ)
      → MayAddBeyond (owner_of facts.layout.cpus slot) r.spent j a ↔ MayAdd h (owner_of facts.layout.cpus slot) j a
  beyond-here j j_in a =
      beyond (owner_of facts.layout.cpus slot) j a
      (λ c owns.
      let is = cpu-owner_of facts.layout.cpus slot stands.slot_in c owns in
      keeps.spends c.number j (let here = is.1 in let below = is.0 in omega arith) j_in)

  pub adds_count : (j : PcpuId) (a : ℤ)
      → (IsPcpu facts j.number × (at r.locks slot j.number (pos 0) ≡ pos 1)
      × MayAddBeyond (owner_of facts.layout.cpus slot) r.spent j.number (a -ℤ at r.carried slot j.number (pos 0)))
      ↔ AddsToCount facts h p j a
  adds_count j a = (
    λ may. record {
      counter = may.0;
      holding = (holding-here j.number may.0).0 may.1;
      amount =
          subst (λ (x : ℤ). MayAdd h (owner_in role h p) j.number (a -ℤ x)) (carried-here j.number may.0)
          (subst (λ (w : Option CpuId). MayAdd h w j.number (a -ℤ at r.carried slot j.number (pos 0))) (sym owner-here)
          ((beyond-here j.number may.0 (a -ℤ at r.carried slot j.number (pos 0))).0 may.2));
    },
    λ may. (
      may.counter,
      (holding-here j.number may.counter).1 may.holding,
      (beyond-here j.number may.counter (a -ℤ at r.carried slot j.number (pos 0))).1
          (subst (λ (w : Option CpuId). MayAdd h w j.number (a -ℤ at r.carried slot j.number (pos 0))) owner-here
          (subst (λ (x : ℤ). MayAdd h (owner_in role h p) j.number (a -ℤ x)) (sym (carried-here j.number may.counter))
          may.amount)),
    ),
  )

  pub gives_back : (j : PcpuId)
      → (IsPcpu facts j.number × (at r.locks slot j.number (pos 0) ≡ pos 1)
      × (at r.carried slot j.number (pos 0) ≡ pos 0))
      ↔ GivesBack facts h p j
  gives_back j = (
    λ may. record {
      counter = may.0;
      holding = (holding-here j.number may.0).0 may.1;
      nothing_carried = sym (carried-here j.number may.0) ∙ may.2;
    },
    λ may. (
      may.counter,
      (holding-here j.number may.counter).1 may.holding,
      carried-here j.number may.counter ∙ may.nothing_carried,
    ),
  )
