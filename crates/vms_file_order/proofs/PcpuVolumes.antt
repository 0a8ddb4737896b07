-- For other crates too: what each CPU spends on percpu counters in a phase is at most the volume of its lines.
use Rattle.std.proofs.Common.{◌≡◌, ℕ, ◌≤◌, nat_eq, Bool, true, false, ℤ, pos, ◌+ℤ◌, ◌≤ℤ◌, List, [], map, unsigned_abs}
use Rattle.std.proofs.Common.{Option, Some, None, refl, sym, ap, subst, arith, if◌then◌else◌}
use Rattle.std.proofs.lemmas.Int.{ints}
use Rattle.vms_world.specs.Common.{CpuId, after, own, owner_in, is_owner, PcpuCall, PcpuFacts, PcpuStep, percpu, IsIdle}
use Rattle.vms_world.specs.Common.{own_added, size_of, MakesPcpuCall, pcpu_added, amount_of, line_of, spent_on_pcpu}
use Rattle.vms_world.specs.Common.{volume, Act, Item, Lane, Cpu, PcpuSteps, pcpu_call, HasLanes, MakesLines, acts_of}
use Rattle.vms_world.specs.Common.{is_among}
use Rattle.vms_pcpu_core.specs.Histories.{History, IsLegal}
use Rattle.vms_pcpu_core.specs.Own.{carried}
use Rattle.vms_pcpu_core.specs.PcpuCalls.{spent_by_call}
use Rattle.vms_pcpu_core.specs.Steps.{role}
use Rattle.vms_pcpu_core.specs.Totals.{spent, spent_by}
use Rattle.vms_pcpu_core.proofs.Common.{added-within, adds-call, idle-after, sizes-after}
use Rattle.vms_world.proofs.Common.{spent-call}
use Rattle.vms_file_order.specs.Common.{StandOnce, pcpu_makes}
use Rattle.vms_file_order.proofs.ActSums.{most-acts, volume-acts}
use Rattle.vms_file_order.proofs.OnePass.{spends-lines}

spent_by-owner : (who : Option CpuId) (c j : ℕ) (carrying : ℤ) (step : PcpuStep)
    → pos (spent_by who c j carrying step) ≡ (if is_owner who c then size_of (amount_of j carrying step) else pos 0)
spent_by-owner (Some d) c j carrying step = by (nat_eq d.number c)
  where
    by : (b : Bool) → pos (if b then unsigned_abs (amount_of j carrying step) else 0)
        ≡ (if b then size_of (amount_of j carrying step) else pos 0)
    by true = refl
    by false = refl
spent_by-owner None c j carrying step = refl

module _ (facts : PcpuFacts) (c : CpuId) (j : ℕ) where
  -- a caller that makes a call adds no more than the call may spend
  call-most : (call : Option PcpuCall) (p : ℕ) (steps : List PcpuStep) → MakesPcpuCall facts (Some c) call steps
      → (g : History) → IsIdle g → IsIdle (after p steps g)
      × (own_added size_of j (after p steps g) ≤ℤ (pos (spent_by_call call j) +ℤ own_added size_of j g))
  call-most (Some call) p steps (answer, is) g idle =
      let adds = adds-call facts (Some c) call steps answer is in (
        idle-after (pcpu_added call answer) p steps adds g idle,
        omega (
          arith,
          ints,
          sizes-after (pcpu_added call answer) p steps adds g idle j,
          added-within call answer j,
        ),
      )
  call-most None p steps makes g idle = (
    subst (λ ks. IsIdle (after p ks g)) (sym makes) idle,
    omega (arith, ints, ap (λ ks. own_added size_of j (after p ks g)) makes),
  )

  act-most : (p : ℕ) (a : Act) (h : History) (steps : List PcpuStep) → PcpuSteps facts (Cpu c) a steps → (g : History)
      → IsIdle g → IsIdle (after p steps g)
      × (own_added size_of j (after p steps g) ≤ℤ (pos (spent_on_pcpu j a) +ℤ own_added size_of j g))
  act-most p a h steps makes g idle =
      subst (λ n. IsIdle (after p steps g)
      × (own_added size_of j (after p steps g) ≤ℤ (pos n +ℤ own_added size_of j g))) (sym (spent-call c a j))
      (call-most (pcpu_call (Cpu c) a) p steps makes g idle)

  pub pcpu-spend_lines : (ls : List Lane) → StandOnce ls → (items : List Item)
      → (is_among (Cpu c) ls ≡ false → acts_of (Cpu c) items ≡ []) → (h : History) → IsLegal facts h
      → HasLanes role ls h → MakesLines (pcpu_makes facts) ls items h
      → spent h c.number j ≤ volume (spent_on_pcpu j) c.number (map line_of items)
  pcpu-spend_lines ls once items no_other h legal lanes lines =
      let spends = spends-lines percpu facts c (λ g. pos (spent g c.number j)) (own_added size_of j)
      (λ e g. size_of (amount_of j (carried j g) e.step)) refl refl
      (λ e g. omega (
        arith,
        ints,
        spent_by-owner (owner_in role g e.caller) c.number j (carried j (own g e.caller)) e.step,
      ))
      (λ e g. refl) h legal ls once items no_other lanes (pcpu_makes facts) lines in
      let made = most-acts (pcpu_makes facts (Cpu c) spends.pass) spends.pass (own_added size_of j) refl
      (spent_on_pcpu j) IsIdle (record { no_lock = λ i. refl; nothing_carried = λ i. refl }) (act-most spends.pass)
      (acts_of (Cpu c) items) h spends.made in
      omega (arith, ints, spends.spends, made.1, volume-acts (spent_on_pcpu j) c items)
