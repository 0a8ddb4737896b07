-- Where there is so much room, a history is legal exactly if it is legal anyway, and there was room for each step.
use Rattle.std.proofs.Common.{◌≡◌, ℕ, [], ◌∷◌, refl, sym, ap, subst}
use Rattle.vms_history.specs.Common.{Acts, Begins, Ends, Role, Works, owner_in}
use Rattle.vms_history.specs.Legal as legal
use Rattle.vms_group_core.specs.declared.states.GroupState.{GroupState}
use Rattle.vms_group_core.specs.Common.{History, IsLegal, Meets, effect, groups, role, state_after}
use Rattle.vms_group_registers.specs.declared.facts.BoundedFacts.{BoundedFacts}
use Rattle.vms_group_registers.specs.Bounded.{HadRoom, bounded_groups}

module _ (facts : BoundedFacts) where
  acts-of : (h : History) (p : ℕ) (t : Role) → Acts bounded_groups facts h p t → Acts groups facts.groups h p t
  acts-of h p Works acts = acts
  acts-of h p (Begins q who) acts = acts
  acts-of h p (Ends q) acts = acts

  acts-to : (h : History) (p : ℕ) (t : Role) → Acts groups facts.groups h p t → Acts bounded_groups facts h p t
  acts-to h p Works acts = acts
  acts-to h p (Begins q who) acts = acts
  acts-to h p (Ends q) acts = acts

  pub state-same : (h : History) → legal.state_after bounded_groups facts h ≡ state_after facts.groups h
  state-same [] = refl
  state-same (e ∷ h) = ap (effect facts.groups (owner_in role h e.caller) e.step) (state-same h)

  pub legal-of : (h : History) → legal.IsLegal bounded_groups facts h → IsLegal facts.groups h
  legal-of [] can_begin = can_begin
  legal-of (e ∷ h) may = (
    legal-of h may.0,
    acts-of h e.caller (role e.step) may.1,
    subst (λ (s : GroupState). Meets facts.groups h s e.caller e.step) (state-same h) may.2.0,
  )

  pub room-of : (h : History) → legal.IsLegal bounded_groups facts h → HadRoom facts.groups.tree facts.room h
  room-of [] can_begin = tt
  room-of (e ∷ h) may = (room-of h may.0, may.2.1)

  pub legal-to : (h : History) → IsLegal facts.groups h → HadRoom facts.groups.tree facts.room h
      → legal.IsLegal bounded_groups facts h
  legal-to [] can_begin room = can_begin
  legal-to (e ∷ h) may room = (
    legal-to h may.0 room.0,
    acts-to h e.caller (role e.step) may.1,
    (subst (λ (s : GroupState). Meets facts.groups h s e.caller e.step) (sym (state-same h)) may.2, room.1),
  )
