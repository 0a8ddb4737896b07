-- A pass that begins, and one that ends, leave the registers as they are.
use Rattle.std.specs.Prelude.{◌≡◌, ◌≢◌, ℕ, [], ◌∷◌, ℤ, pos, Option, refl, nat_eq, if◌then◌else◌, Bool, true, false}
use Rattle.std.specs.Prelude.{unsigned_abs}
use Rattle.std.proofs.Common.{sym, ap, ◌∙◌, subst, arith, eqb-true}
use Rattle.vms_history.specs.Common.{CpuId, Acts, Works, Ends, IsCpu, own, owner_in}
use Rattle.vms_history.proofs.Common.{if-either}
use Rattle.vms_cells.specs.Cells.{at}
use Rattle.vms_pcpu_core.specs.declared.steps.PcpuFacts.{PcpuFacts}
use Rattle.vms_pcpu_core.specs.declared.steps.PcpuStep.{PcpuStep}
use Rattle.vms_pcpu_core.specs.declared.steps.PcpuStep.TheVariants.{Split, Join}
use Rattle.vms_pcpu_core.specs.Common.{History, IsPcpu, amount_of, carried, holds_lock, is_owned, percpu, quiet_percpu}
use Rattle.vms_pcpu_core.specs.Common.{role, spent, spent_by, state_after}
use Rattle.vms_pcpu_core.proofs.Common.{holder-one}
use Rattle.vms_registers.specs.Slots.{BeginsIn, EndsIn, held_events, owner_of}
use Rattle.vms_registers.proofs.HeldEvents.{held_events-begins, held_events-ends, held_events-here}
use Rattle.vms_registers.proofs.QuietRoles.{begins-differs, ends-differs}
use Rattle.vms_pcpu_registers.specs.declared.registers.PcpuRegisters.{PcpuRegisters}
use Rattle.vms_pcpu_registers.specs.Keeps.{KeepsPercpu, mark_of, state_of}

-- a step that begins or ends a pass adds nothing
amount_of-quiet : (j : ℕ) (carrying : ℤ) (step : PcpuStep) → role step ≢ Works → amount_of j carrying step ≡ pos 0
amount_of-quiet j carrying (Split q who) differs = refl
amount_of-quiet j carrying (Join q) differs = refl
amount_of-quiet j carrying _ differs = absurd (differs refl)

spent_by-quiet : (who : Option CpuId) (c j : ℕ) (carrying : ℤ) (step : PcpuStep) → role step ≢ Works
    → spent_by who c j carrying step ≡ 0
spent_by-quiet who c j carrying step differs =
    ap (λ (a : ℤ). if is_owned who c then unsigned_abs a else 0) (amount_of-quiet j carrying step differs)
    ∙ if-either (is_owned who c) 0

module _ (facts : PcpuFacts) (h : History) (held next : ℕ → ℕ) (slot q : ℕ) (step : PcpuStep) (r : PcpuRegisters)
    (keeps : KeepsPercpu facts h held r) where
  -- the state stands, and no CPU spends
  state-quiet : role step ≢ Works → state_of r ≡ state_after facts (record { caller = 0; step = step } ∷ h)
  state-quiet differs =
      keeps.state
      ∙ sym (quiet_percpu.leaves facts (owner_in role h 0) step (state_after facts h) differs)

  spends-quiet : role step ≢ Works → (c j : ℕ) → IsCpu facts.layout c → IsPcpu facts j
      → at r.spent c j 0 ≡ spent (record { caller = 0; step = step } ∷ h) c j
  spends-quiet differs c j c_in j_in =
      let none = spent_by-quiet (owner_in role h 0) c j (carried j (own h 0)) step differs in
      omega (arith, none, keeps.spends c j c_in j_in)

  pub KeepsPercpu-begins : BeginsIn percpu facts facts.layout.cpus h held slot q step next
      → KeepsPercpu facts (record { caller = 0; step = step } ∷ h) next r
  KeepsPercpu-begins begins =
      let differs = begins-differs (role step) q (owner_of facts.layout.cpus slot) begins.begins in
      record {
        state = state-quiet differs;
        spent_cells = keeps.spent_cells;
        spends = spends-quiet differs;
        carried_cells = keeps.carried_cells;
        carries = λ s j s_in j_in. keeps.carries s j s_in j_in ∙ sym (ap (carried j) (same s));
        lock_cells = keeps.lock_cells;
        holds = λ s j s_in j_in.
            keeps.holds s j s_in j_in ∙ sym (ap (λ (o : History). mark_of (holds_lock j o)) (same s));
      }
    where
      same : (s : ℕ) → held_events next (record { caller = 0; step = step } ∷ h) s ≡ held_events held h s
      same = held_events-begins percpu facts facts.layout.cpus h held slot q step next begins

  pub KeepsPercpu-ends : EndsIn percpu facts facts.layout.cpus h held slot q step next
      → KeepsPercpu facts (record { caller = 0; step = step } ∷ h) next r
  KeepsPercpu-ends ends =
      let differs = ends-differs (role step) q ends.ends in
      record {
        state = state-quiet differs;
        spent_cells = keeps.spent_cells;
        spends = spends-quiet differs;
        carried_cells = keeps.carried_cells;
        carries = λ s j s_in j_in.
            keeps.carries s j s_in j_in
            ∙ left j (carried j) (λ none. (holder-one facts h ends.stands.legal j j_in).others q none) s j_in
            ∙ sym (ap (carried j) (after s));
        lock_cells = keeps.lock_cells;
        holds = λ s j s_in j_in.
            keeps.holds s j s_in j_in
            ∙ left j (λ (o : History). mark_of (holds_lock j o)) (ap mark_of) s j_in
            ∙ sym (ap (λ (o : History). mark_of (holds_lock j o)) (after s));
      }
    where
      acts : Acts percpu facts h 0 (Ends q)
      acts = subst (Acts percpu facts h 0) ends.ends ends.legal.1

      after : (s : ℕ) → held_events next (record { caller = 0; step = step } ∷ h) s
          ≡ (if nat_eq slot s then [] else held_events held h s)
      after = held_events-ends percpu facts facts.layout.cpus h held slot q step next ends

      -- the pass that ends holds no lock, and so carries nothing
      left : {X : Type 0} (j : ℕ) (f : History → X) → (holds_lock j (own h q) ≡ false → f (own h q) ≡ f []) → (s : ℕ)
          → IsPcpu facts j
          → f (held_events held h s) ≡ f (if nat_eq slot s then [] else held_events held h s)
      left j f none s j_in = by (nat_eq slot s) refl
        where
          by : (b : Bool) → nat_eq slot s ≡ b
              → f (held_events held h s) ≡ f (if b then [] else held_events held h s)
          by true same =
              ap (λ n. f (held_events held h n)) (sym (eqb-true slot s same))
              ∙ ap f (held_events-here percpu facts facts.layout.cpus h held slot q ends.stands)
              ∙ none (acts.2 j j_in)
          by false other = refl
