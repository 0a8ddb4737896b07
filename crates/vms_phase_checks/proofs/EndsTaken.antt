-- A pass ends if it has made all acts of its lane.
use Rattle.std.proofs.Common.{◌≡◌, ◌≢◌, ℕ, ◌+◌, ◌≤◌, List, ◌∷◌, get_or, Option, Some, None, refl, sym, ap, subst, ◌∙◌}
use Rattle.std.proofs.Common.{arith}
use Rattle.vms_world.specs.Common.{Header, CpuId, ZoneSize, State, Step, Event, Act, Item, Lane, MakesActs, PageSteps}
use Rattle.vms_world.specs.Common.{Role, Ends, acts_of, begun_after, begun_in, facts_of, own, owner_after, owner_in}
use Rattle.vms_world.specs.Common.{owner_of as owner_of_lane}
use Rattle.vms_history.proofs.Common.{own-others, owner_in-main}
use Rattle.vms_history.proofs.PassLaws.{begun_in-main}
use Rattle.vms_core.specs.Pages.{History, IsLegal}
use Rattle.vms_core.specs.Steps.{role}
use Rattle.vms_registers.specs.Shows.{Parts}
use Rattle.vms_registers.specs.Slots.{owner_of}
use Rattle.vms_page_registers.specs.declared.registers.PageRegisters.{PageRegisters}
use Rattle.vms_phase_checks.specs.declared.checks.PhaseCheck.{PhaseCheck}
use Rattle.vms_phase_checks.specs.Common.{Checks, HasMadeLane, IsAloneIn, KeepsToLines, ShowsPages, lane_in}
use Rattle.vms_phase_checks.proofs.CheckedEvents.{Checks-same, StaysWithOthers, walks-stay}
use Rattle.vms_phase_checks.proofs.CheckedSlots.{InSlot, alone-in, stands-in}
use Rattle.vms_phase_checks.proofs.KeptEvents.{KeepsToLines-ends}
use Rattle.vms_phase_checks.proofs.KeptFaults.{made-kept}
use Rattle.vms_phase_checks.proofs.KeptPhases.{GoByOwn, IsAloneIn-apart, owner_of-lane_for}
use Rattle.vms_phase_checks.proofs.Shown.{moved}

module _ {W : Type 0} (Stands : Header → State → Lane → ℕ → List Act → History → W → Type 0)
    (pressure normal : ZoneSize → ℕ → ℕ → Type 0) (stays : StaysWithOthers Stands) (by_own : GoByOwn pressure normal)
    (header : Header) (s : State) (items : List Item) (h : History) (check : PhaseCheck W)
    (is : Checks Stands pressure normal header s items h check) (q slot : ℕ) (step : Step)
    (at : InSlot header h q slot) (ends : role step ≡ Ends q)
    (legal : IsLegal (facts_of header s) (record { caller = 0; step = step } ∷ h)) where
  abbrev cpus : ℕ
  cpus = header.layout.cpus

  abbrev e : Event Step
  e = record { caller = 0; step = step }

  abbrev IsDone : History → Type 0
  IsDone g = MakesActs (PageSteps header s pressure normal (lane_in cpus slot) q) q (acts_of (lane_in cpus slot) items) g

  same : begun_in role (e ∷ h) ≡ begun_in role h
  same = begun_in-main role e h refl ∙ ap (λ (t : Role). begun_after t (begun_in role h)) ends

  owner-same : (p : ℕ) → owner_in role (e ∷ h) p ≡ owner_in role h p
  owner-same p = owner_in-main role e h p refl ∙ ap (λ (t : Role). owner_after t p (owner_in role h p)) ends

  module _ (done : IsDone h) (r : Parts PageRegisters) (shows : ShowsPages (facts_of header s) (e ∷ h) r) where
    keeps : KeepsToLines header pressure normal s items (e ∷ h)
    keeps = KeepsToLines-ends header pressure normal s items h is.keeps e legal refl q ends
        (subst (λ (who : Option CpuId). HasMadeLane header pressure normal s items who q h) (sym at.owns) done)

    pub Checks-ended : Checks Stands pressure normal header s items (e ∷ h)
        (record check { registers = r; events = check.events + 1 })
    Checks-ended = Checks-same Stands pressure normal stays header s items h check is e keeps r shows
        (λ other other_in.
        walks-stay Stands pressure normal stays header s items h check is e other (λ p most. omega (arith, most, same))
        (λ p most. owner-same p) (λ p least most owns. omega (arith, most, same))
        (λ p least most owns one. absurd (omega (arith, least, one))) (get_or check.walks other None)
        (is.walks other other_in))

  alone-after : IsAloneIn header s (lane_in cpus slot) q (e ∷ h)
  alone-after = IsAloneIn-apart pressure normal header s items (e ∷ h) q legal at.least
      (omega (arith, at.most, same))
      (λ r t r_least r_most t_least t_most owners. is.keeps.apart r t r_least (omega (arith, r_most, same)) t_least
      (omega (arith, t_most, same)) (sym (owner-same r) ∙ owners ∙ owner-same t))
      (lane_in cpus slot) (owner-same q ∙ at.owns ∙ sym (owner_of-lane_for (owner_of cpus slot)))

  pub too-early : ¬ IsDone h → ¬ KeepsToLines header pressure normal s items (e ∷ h)
  too-early not_done kept =
      let made : IsDone (e ∷ h) =
      subst (λ (who : Option CpuId). HasMadeLane header pressure normal s items who q (e ∷ h)) at.owns
      (made-kept header pressure normal s items h e kept refl q ends at.least at.most) in
      not_done (by_own header s (lane_in cpus slot) q (acts_of (lane_in cpus slot) items) (e ∷ h) h alone-after
      (alone-in Stands pressure normal header s items h check is q slot at)
      (sym (own-others e h q (λ main. absurd (omega (arith, at.least, main))))) made)

  -- what the walk is asked at this lane and these acts, and what it answers
  module _ (lane : Lane) (acts : List Act) (lane-is : lane ≡ lane_in cpus slot)
      (acts-is : acts ≡ acts_of (lane_in cpus slot) items) where
    pub asked-stands : (w : W) → get_or check.walks slot None ≡ Some w → Stands header s lane q acts h w
    asked-stands w walk-is = moved (λ (l : Lane) (xs : List Act). Stands header s l q xs h w) lane (lane_in cpus slot)
        acts (acts_of (lane_in cpus slot) items) lane-is acts-is
        (stands-in Stands pressure normal header s items h check is q slot at w walk-is)

    pub asked-alone : IsAloneIn header s lane q h
    asked-alone = subst (λ (l : Lane). IsAloneIn header s l q h) (sym lane-is)
        (alone-in Stands pressure normal header s items h check is q slot at)

    abbrev MadeAt : Lane → List Act → Type 0
    MadeAt l xs = MakesActs (PageSteps header s pressure normal l q) q xs h

    pub answered-no : ¬ MadeAt lane acts → ¬ KeepsToLines header pressure normal s items (e ∷ h)
    answered-no not_made = too-early (λ done. not_made (moved MadeAt lane (lane_in cpus slot) acts
        (acts_of (lane_in cpus slot) items) lane-is acts-is done))

    pub answered-yes : MadeAt lane acts → (r : Parts PageRegisters) → ShowsPages (facts_of header s) (e ∷ h) r
        → Checks Stands pressure normal header s items (e ∷ h)
        (record check { registers = r; events = check.events + 1 })
    answered-yes made r shows = Checks-ended (moved MadeAt (lane_in cpus slot) lane
        (acts_of (lane_in cpus slot) items) acts (sym lane-is) (sym acts-is) made) r shows
