-- How large the registers become: the numbers and amounts of a legal history are small.
use Rattle.std.proofs.Common.{◌≡◌, ℕ, ◌+◌, ◌<◌, ◌≤◌, [], ◌∷◌, length, Option, Some, None, ℤ, pos, ◌+ℤ◌, ◌-ℤ◌}
use Rattle.std.proofs.Common.{unsigned_abs, refl, ap, subst, ◌∙◌, arith, eq-eqb}
use Rattle.std.specs.Prelude.{◌^◌, slice_index_or}
use Rattle.std.proofs.lemmas.Int.{ints}
use Rattle.vms_history.specs.Common.{cell, CpuId, PcpuId, IsCpu, owner_in, most_volume}
use Rattle.vms_base.proofs.Common.{cell-lt}
use Rattle.vms_cells.specs.Cells.{Cells, at}
use Rattle.vms_pcpu_core.specs.declared.steps.PcpuFacts.{PcpuFacts}
use Rattle.vms_pcpu_core.specs.declared.steps.PcpuStep.TheVariants.{AddL, TakeL, AddC}
use Rattle.vms_pcpu_core.specs.Common.{History, IsLegal, IsPcpu, LockedState, batch_at, count_at, counters_of, local_at}
use Rattle.vms_pcpu_core.specs.Common.{percpu, role, state_after}
use Rattle.vms_pcpu_core.proofs.Common.{HasShape-state_after, count_at-effect, laws-kept}
use Rattle.vms_registers.specs.Slots.{MayWork, owner_of}
use Rattle.vms_registers.proofs.HeldEvents.{stands-lives}
use Rattle.vms_pcpu_registers.specs.declared.registers.PcpuRegisters.{PcpuRegisters}
use Rattle.vms_pcpu_registers.specs.Keeps.{IsKept, KeepsPercpu, MayAddBeyond}
use Rattle.vms_pcpu_registers.proofs.ShownConditions.{adds_count, adds_local, carried-here, kept, owner_of-cpu}

-- the local part of a CPU for a counter stands in the list
pub local-stands : (facts : PcpuFacts) (r : PcpuRegisters) (c j : ℕ) → IsKept facts r → IsCpu facts.layout c
    → IsPcpu facts j → cell (counters_of r.numbers) c j < length r.numbers.local
local-stands facts r c j kept c_in j_in =
    let wide : counters_of r.numbers ≡ counters_of facts.base = ap length kept.shaped.batch in
    rw (kept.shaped.local, wide) (cell-lt (counters_of facts.base) facts.layout.cpus c j c_in j_in)

-- what may be added beyond what is carried is at most a volume
beyond-small : (w : Option CpuId) (spent : Cells ℕ) (j : ℕ) (a : ℤ) → MayAddBeyond w spent j a
    → unsigned_abs a ≤ most_volume
beyond-small (Some c) spent j a may = omega (arith, may)
beyond-small None spent j a may = rw may (omega arith)

module _ (facts : PcpuFacts) (h : History) (held : ℕ → ℕ) (slot p : ℕ) (r : PcpuRegisters)
    (keeps : KeepsPercpu facts h held r) where
  -- an addition to the own local part
  module _ (j : PcpuId) (a : ℤ) (may : MayWork percpu facts facts.layout.cpus h held slot p (AddL j a)) where
    pub may-add_local : (slot < facts.layout.cpus) × IsPcpu facts j.number
        × (unsigned_abs (local_at r.numbers slot j.number +ℤ a) ≤ batch_at r.numbers j.number)
        × (at r.spent slot j.number 0 + unsigned_abs a ≤ most_volume)
    may-add_local = (adds_local facts h held slot p may.stands r keeps j a).1 may.meets

    pub local-room : unsigned_abs (local_at r.numbers slot j.number +ℤ a) < 2 ^ 62
    local-room =
        let is = kept facts h held slot p may.stands r keeps in
        let batch : batch_at r.numbers j.number ≡ batch_at facts.base j.number =
        ap (λ bs. slice_index_or bs j.number 0) is.shaped.batch in
        let most = (is.base.counters j.number may-add_local.1).batch_most in
        let within = may-add_local.2 in
        omega arith

  -- a take of a local part
  module _ (j : PcpuId) (c : CpuId) (v : ℤ)
      (may : MayWork percpu facts facts.layout.cpus h held slot p (TakeL j c v)) where
    pub carried-room : unsigned_abs (at r.carried slot j.number (pos 0) +ℤ v) < 2 ^ 62
    carried-room =
        let laws = laws-kept facts [] h may.stands.legal in
        let small = laws.numbers j.number may.meets.counter in
        let carrying = small.in_hand p in
        let standing = small.local c.number may.meets.cpu in
        let here = carried-here facts h held slot p may.stands r keeps j.number may.meets.counter in
        let value = may.meets.value in
        omega (arith, ints, here, value, carrying, standing)

  -- an addition to a shared part
  module _ (j : PcpuId) (a : ℤ) (may : MayWork percpu facts facts.layout.cpus h held slot p (AddC j a)) where
    longer-legal : IsLegal facts (record { caller = p; step = AddC j a } ∷ h)
    longer-legal = (
      may.stands.legal,
      (may.stands.given, stands-lives percpu facts facts.layout.cpus h held slot p may.stands),
      may.meets,
    )

    pub count-room : unsigned_abs (count_at r.numbers j.number +ℤ a) < 2 ^ 62
    count-room =
        let laws = laws-kept facts [] (record { caller = p; step = AddC j a } ∷ h) longer-legal in
        let small = (laws.numbers j.number may.meets.counter).count in
        let same = eq-eqb j.number j.number refl in
        let after : count_at (state_after facts (record { caller = p; step = AddC j a } ∷ h)).numbers j.number
        ≡ count_at (state_after facts h).numbers j.number +ℤ a =
        count_at-effect facts h (state_after facts h) p (HasShape-state_after facts h may.stands.legal)
        (owner_in role h p) (AddC j a) j.number may.meets
        ∙ rw same refl in
        let stood : count_at r.numbers j.number ≡ count_at (state_after facts h).numbers j.number =
        ap (λ (s : LockedState). count_at s.numbers j.number) keeps.state in
        omega (arith, ints, small, after, stood)

    may-beyond : MayAddBeyond (owner_of facts.layout.cpus slot) r.spent j.number
        (a -ℤ at r.carried slot j.number (pos 0))
    may-beyond = ((adds_count facts h held slot p may.stands r keeps j a).1 may.meets).2

    pub amount-room : unsigned_abs (a -ℤ at r.carried slot j.number (pos 0)) < 2 ^ 62
    amount-room =
        let small = beyond-small (owner_of facts.layout.cpus slot) r.spent j.number
        (a -ℤ at r.carried slot j.number (pos 0)) may-beyond in
        omega arith

    pub volume-room : slot < facts.layout.cpus
        → at r.spent slot j.number 0 + unsigned_abs (a -ℤ at r.carried slot j.number (pos 0)) < 2 ^ 62
    volume-room below =
        let owns = owner_of-cpu facts.layout.cpus slot may.stands.slot_in below in
        let afford : at r.spent slot j.number 0 + unsigned_abs (a -ℤ at r.carried slot j.number (pos 0)) ≤ most_volume =
        subst (λ (w : Option CpuId). MayAddBeyond w r.spent j.number (a -ℤ at r.carried slot j.number (pos 0))) owns
        may-beyond in
        omega arith
