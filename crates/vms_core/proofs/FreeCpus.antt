-- For other crates too: what stands of a CPU while no pass owns it, and of all settings while no control pass lives.
use Rattle.std.proofs.Common.{◌≡◌, ◌≢◌, ℕ, ◌&&◌, [], ◌∷◌, ◌++◌, Option, Some, None, refl, sym, ap, ◌∙◌, subst, arith}
use Rattle.std.proofs.Common.{nat_eq, eqb-true}
use Rattle.std.proofs.lemmas.Bool.{and_parts}
use Rattle.vms_history.specs.Common.{CpuId, own, owner_in, IsFree}
use Rattle.vms_history.specs.declared.events.Event.{Event}
use Rattle.vms_history.proofs.Common.{if-never, holds_while_free, own-on_top, same_cpu}
use Rattle.vms_core.specs.declared.steps.Facts.{Facts}
use Rattle.vms_core.specs.declared.steps.Step.{Step}
use Rattle.vms_core.specs.declared.steps.Step.TheVariants.{SetA}
use Rattle.vms_core.specs.Common.{acknowledged_at, GoesOnWithoutMain, StandsFree, ControlKnows, pages, History, IsLegal}
use Rattle.vms_core.specs.Common.{state_after, role, spent}
use Rattle.vms_core.proofs.Settings.{acknowledged_after, acknowledged_at-newest}
use Rattle.vms_core.proofs.KnowledgeKept.{spent_by-others, event-leaves, knows-none, knows-both}

-- a step of another than the owner of a CPU acknowledges nothing for it
acknowledged_after-others : (who : Option CpuId) (c : CpuId) (g : ℕ) (step : Step) (before : Option ℕ) → who ≢ Some c
    → acknowledged_after who c.number g step before ≡ before
acknowledged_after-others (Some d) c g (SetA f a) before other =
    if-never (nat_eq d.number c.number && nat_eq f.number g) (Some a) before (λ here.
    let cpus = (and_parts (nat_eq d.number c.number) (nat_eq f.number g) here).0 in
    other (ap Some (same_cpu d c (eqb-true d.number c.number cpus))))
acknowledged_after-others (Some d) c g _ before other = refl
acknowledged_after-others None c g _ before other = refl

module _ (facts : Facts) (later earlier : History) (goes : GoesOnWithoutMain facts later earlier) where
  abbrev more : History
  more = goes.extends.0

  -- what each step of others leaves stands
  stands : (who : Option CpuId) → IsFree role earlier who → (Holds : History → Type 0)
      → ((e : Event Step) (m : History) → IsLegal facts (e ∷ (m ++ earlier)) → e.caller ≢ 0
      → owner_in role (m ++ earlier) e.caller ≢ who → Holds (m ++ earlier) → Holds (e ∷ (m ++ earlier)))
      → Holds earlier → Holds later
  stands who free Holds step holds =
      subst Holds (sym goes.extends.1)
      (holds_while_free pages facts earlier who free Holds step holds more
      (subst (IsLegal facts) goes.extends.1 goes.legal)
      (own-on_top more earlier 0 [] (subst (λ (g : History). own g 0 ≡ own earlier 0) goes.extends.1 goes.own_same)))

  pub cpu-stands : (c : CpuId) → IsFree role earlier (Some c) → StandsFree facts later earlier c.number
  cpu-stands c free = record {
    volumes = λ k.
        stands (Some c) free (λ g. spent g c.number k ≡ spent earlier c.number k)
        (λ e m legal main other before.
        let nothing = spent_by-others (owner_in role (m ++ earlier) e.caller) c k e.step other in
        omega (arith, nothing, before))
        refl;
    acknowledged = λ g zone.
        stands (Some c) free
        (λ h. acknowledged_at (state_after facts h) c.number g ≡ acknowledged_at (state_after facts earlier) c.number g)
        (λ e m legal main other before.
        acknowledged_at-newest facts e (m ++ earlier) legal c.number g zone
        ∙ acknowledged_after-others (owner_in role (m ++ earlier) e.caller) c g e.step _ other ∙ before)
        refl;
  }

  pub settings-stand : IsFree role earlier None → ControlKnows facts later earlier
  settings-stand free =
      stands None free (λ g. ControlKnows facts g earlier)
      (λ e m legal main other before.
      knows-both facts (e ∷ (m ++ earlier)) (m ++ earlier) earlier
      (event-leaves facts e (m ++ earlier) legal (λ not_main none. other none)) before)
      (knows-none facts earlier)
