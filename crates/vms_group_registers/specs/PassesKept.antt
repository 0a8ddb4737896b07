-- A pass that begins, and one that ends, leave the registers as they are.
use Rattle.std.specs.Prelude.{◌≡◌, ◌≢◌, ℕ, [], ◌∷◌, Option, Some, None, refl, nat_eq, if◌then◌else◌, Bool, true, false}
use Rattle.std.proofs.Common.{sym, ap, ◌∙◌, subst, arith, eqb-true}
use Rattle.vms_history.specs.Common.{CpuId, Acts, Works, Ends, own, owner_in}
use Rattle.vms_cells.specs.Cells.{at}
use Rattle.vms_group_core.specs.declared.steps.GroupStep.{GroupStep}
use Rattle.vms_group_core.specs.declared.steps.GroupStep.TheVariants.{AddP, Split, Join}
use Rattle.vms_group_core.specs.declared.trees.Tree.{Tree}
use Rattle.vms_group_core.specs.Common.{CarriesNone, History, IsGroup, IsTreeCpu, carried, carried_up, quiet_groups}
use Rattle.vms_group_core.specs.Common.{role, spent, spent_by, state_after}
use Rattle.vms_registers.specs.Slots.{BeginsIn, EndsIn, held_events, owner_of}
use Rattle.vms_registers.proofs.HeldEvents.{held_events-begins, held_events-ends, held_events-here}
use Rattle.vms_registers.proofs.QuietRoles.{begins-differs, ends-differs}
use Rattle.vms_group_registers.specs.declared.facts.BoundedFacts.{BoundedFacts}
use Rattle.vms_group_registers.specs.declared.registers.GroupRegisters.{GroupRegisters}
use Rattle.vms_group_registers.specs.Bounded.{bounded_groups, rising_after, rising_in}
use Rattle.vms_group_registers.specs.Keeps.{KeepsGroups}
use Rattle.vms_group_registers.specs.Rises.{times}

-- a step that begins or ends a pass changes nothing, and makes nothing rise
spent_by-quiet : (who : Option CpuId) (c g : ℕ) (step : GroupStep) → role step ≢ Works → spent_by who c g step ≡ 0
spent_by-quiet None c g step differs = refl
spent_by-quiet (Some o) c g (AddP x a) differs = absurd (differs refl)
spent_by-quiet (Some o) c g _ differs = refl

rising-quiet : (tree : Tree) (step : GroupStep) (n : ℕ) → role step ≢ Works → n ≡ rising_after tree step n
rising-quiet tree (Split q who) n differs = refl
rising-quiet tree (Join q) n differs = refl
rising-quiet tree _ n differs = absurd (differs refl)

module _ (facts : BoundedFacts) (h : History) (held next : ℕ → ℕ) (slot q : ℕ) (step : GroupStep) (r : GroupRegisters)
    (keeps : KeepsGroups facts h held r) where
  -- the words stand, no CPU spends, and nothing rises
  state-quiet : role step ≢ Works → r.state ≡ state_after facts.groups (record { caller = 0; step = step } ∷ h)
  state-quiet differs =
      keeps.state
      ∙ sym (quiet_groups.leaves facts.groups (owner_in role h 0) step (state_after facts.groups h) differs)

  spends-quiet : role step ≢ Works → (c g : ℕ) → IsTreeCpu facts.groups.tree c → IsGroup facts.groups.tree g
      → at r.spent c g 0 ≡ spent (record { caller = 0; step = step } ∷ h) c g
  spends-quiet differs c g c_in g_in =
      let none = spent_by-quiet (owner_in role h 0) c g step differs in
      omega (arith, none, keeps.spends c g c_in g_in)

  count-quiet : role step ≢ Works
      → r.rises.count ≡ rising_in facts.groups.tree (record { caller = 0; step = step } ∷ h)
  count-quiet differs =
      keeps.count ∙ rising-quiet facts.groups.tree step (rising_in facts.groups.tree h) differs

  pub KeepsGroups-begins : BeginsIn bounded_groups facts facts.groups.tree.cpus h held slot q step next
      → KeepsGroups facts (record { caller = 0; step = step } ∷ h) next r
  KeepsGroups-begins begins =
      let differs = begins-differs (role step) q (owner_of facts.groups.tree.cpus slot) begins.begins in
      record {
        state = state-quiet differs;
        spent_cells = keeps.spent_cells;
        spends = spends-quiet differs;
        carried_cells = keeps.carried_cells;
        carries = λ s g s_in g_in. keeps.carries s g s_in g_in ∙ sym (ap (carried g) (same s));
        rising = λ s g a s_in g_in.
            keeps.rising s g a s_in g_in
            ∙ sym (ap (λ (o : History). times a (carried_up facts.groups.tree g o)) (same s));
        known = keeps.known;
        count = count-quiet differs;
        within = keeps.within;
        room = keeps.room;
      }
    where
      same : (s : ℕ) → held_events next (record { caller = 0; step = step } ∷ h) s ≡ held_events held h s
      same = held_events-begins bounded_groups facts facts.groups.tree.cpus h held slot q step next begins

  pub KeepsGroups-ends : EndsIn bounded_groups facts facts.groups.tree.cpus h held slot q step next
      → KeepsGroups facts (record { caller = 0; step = step } ∷ h) next r
  KeepsGroups-ends ends =
      let differs = ends-differs (role step) q ends.ends in
      record {
        state = state-quiet differs;
        spent_cells = keeps.spent_cells;
        spends = spends-quiet differs;
        carried_cells = keeps.carried_cells;
        carries = λ s g s_in g_in.
            keeps.carries s g s_in g_in
            ∙ left g (carried g) (λ none. none.value) s g_in
            ∙ sym (ap (carried g) (after s));
        rising = λ s g a s_in g_in.
            let of : History → ℕ = λ o. times a (carried_up facts.groups.tree g o) in
            keeps.rising s g a s_in g_in ∙ left g of (λ none. ap (times a) none.up) s g_in ∙ sym (ap of (after s));
        known = keeps.known;
        count = count-quiet differs;
        within = keeps.within;
        room = keeps.room;
      }
    where
      acts : Acts bounded_groups facts h 0 (Ends q)
      acts = subst (Acts bounded_groups facts h 0) ends.ends ends.legal.1

      after : (s : ℕ) → held_events next (record { caller = 0; step = step } ∷ h) s
          ≡ (if nat_eq slot s then [] else held_events held h s)
      after = held_events-ends bounded_groups facts facts.groups.tree.cpus h held slot q step next ends

      -- the pass that ends carries nothing
      left : {X : Type 0} (g : ℕ) (f : History → X)
          → (CarriesNone facts.groups.tree g (own h q) → f (own h q) ≡ f []) → (s : ℕ) → IsGroup facts.groups.tree g
          → f (held_events held h s) ≡ f (if nat_eq slot s then [] else held_events held h s)
      left g f none s g_in = by (nat_eq slot s) refl
        where
          by : (b : Bool) → nat_eq slot s ≡ b
              → f (held_events held h s) ≡ f (if b then [] else held_events held h s)
          by true same =
              ap (λ n. f (held_events held h n)) (sym (eqb-true slot s same))
              ∙ ap f (held_events-here bounded_groups facts facts.groups.tree.cpus h held slot q ends.stands)
              ∙ none (acts.2 g g_in)
          by false other = refl
