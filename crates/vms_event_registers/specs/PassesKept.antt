-- A pass that begins, and one that ends, leave the registers as they are.
use Rattle.std.specs.Prelude.{◌≡◌, ◌≢◌, ℕ, [], ◌∷◌, Option, Some, None, refl, nat_eq, if◌then◌else◌, Bool, true, false}
use Rattle.std.proofs.Common.{sym, ap, ◌∙◌, subst, arith, eqb-true}
use Rattle.vms_history.specs.Common.{CpuId, Acts, Works, Ends, IsCpu, owner_in}
use Rattle.vms_cells.specs.Cells.{at}
use Rattle.vms_event_core.specs.declared.steps.EventFacts.{EventFacts}
use Rattle.vms_event_core.specs.declared.steps.EventStep.{EventStep}
use Rattle.vms_event_core.specs.declared.steps.EventStep.TheVariants.{AddE}
use Rattle.vms_event_core.specs.Common.{History, IsEvent, carried, events, quiet_events, role, spent, spent_by}
use Rattle.vms_event_core.specs.Common.{state_after}
use Rattle.vms_registers.specs.Slots.{BeginsIn, EndsIn, held_events, owner_of}
use Rattle.vms_registers.proofs.HeldEvents.{held_events-begins, held_events-ends, held_events-here}
use Rattle.vms_registers.proofs.QuietRoles.{begins-differs, ends-differs}
use Rattle.vms_event_registers.specs.declared.registers.EventRegisters.{EventRegisters}
use Rattle.vms_event_registers.specs.Keeps.{KeepsEvents}

-- a step that begins or ends a pass counts nothing
spent_by-quiet : (who : Option CpuId) (c k : ℕ) (step : EventStep) → role step ≢ Works → spent_by who c k step ≡ 0
spent_by-quiet None c k step differs = refl
spent_by-quiet (Some o) c k (AddE l n) differs = absurd (differs refl)
spent_by-quiet (Some o) c k _ differs = refl

module _ (facts : EventFacts) (h : History) (held next : ℕ → ℕ) (slot q : ℕ) (step : EventStep) (r : EventRegisters)
    (keeps : KeepsEvents facts h held r) where
  -- the words stand, and no CPU counts
  state-quiet : role step ≢ Works → r.state ≡ state_after facts (record { caller = 0; step = step } ∷ h)
  state-quiet differs =
      keeps.state
      ∙ sym (quiet_events.leaves facts (owner_in role h 0) step (state_after facts h) differs)

  counts-quiet : role step ≢ Works → (c k : ℕ) → IsCpu facts.layout c → IsEvent k
      → at r.spent c k 0 ≡ spent (record { caller = 0; step = step } ∷ h) c k
  counts-quiet differs c k c_in k_in =
      let none = spent_by-quiet (owner_in role h 0) c k step differs in
      omega (arith, none, keeps.counts c k c_in k_in)

  pub KeepsEvents-begins : BeginsIn events facts facts.layout.cpus h held slot q step next
      → KeepsEvents facts (record { caller = 0; step = step } ∷ h) next r
  KeepsEvents-begins begins =
      let differs = begins-differs (role step) q (owner_of facts.layout.cpus slot) begins.begins in
      record {
        state = state-quiet differs;
        lowest = keeps.lowest;
        lowest_in = keeps.lowest_in;
        spent_cells = keeps.spent_cells;
        counts = counts-quiet differs;
        carried_cells = keeps.carried_cells;
        carries = λ s k s_in k_in.
            keeps.carries s k s_in k_in
            ∙ sym (ap (carried k)
            (held_events-begins events facts facts.layout.cpus h held slot q step next begins s));
      }

  pub KeepsEvents-ends : EndsIn events facts facts.layout.cpus h held slot q step next
      → KeepsEvents facts (record { caller = 0; step = step } ∷ h) next r
  KeepsEvents-ends ends =
      let differs = ends-differs (role step) q ends.ends in
      record {
        state = state-quiet differs;
        lowest = keeps.lowest;
        lowest_in = keeps.lowest_in;
        spent_cells = keeps.spent_cells;
        counts = counts-quiet differs;
        carried_cells = keeps.carried_cells;
        carries = λ s k s_in k_in.
            keeps.carries s k s_in k_in
            ∙ by s k k_in (nat_eq slot s) refl
            ∙ sym (ap (carried k) (held_events-ends events facts facts.layout.cpus h held slot q step next ends s));
      }
    where
      acts : Acts events facts h 0 (Ends q)
      acts = subst (Acts events facts h 0) ends.ends ends.legal.1

      -- the pass that ends carries nothing
      by : (s k : ℕ) → IsEvent k → (b : Bool) → nat_eq slot s ≡ b
          → carried k (held_events held h s) ≡ carried k (if b then [] else held_events held h s)
      by s k k_in true same =
          ap (λ n. carried k (held_events held h n)) (sym (eqb-true slot s same))
          ∙ ap (carried k) (held_events-here events facts facts.layout.cpus h held slot q ends.stands)
          ∙ acts.2 k k_in
      by s k k_in false other = refl
