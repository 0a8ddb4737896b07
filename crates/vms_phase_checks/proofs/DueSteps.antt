-- The step that is due of the pass in a slot.
use Rattle.std.proofs.Common.{◌≡◌, ◌≢◌, ℕ, true, List, ◌∷◌, get_or, Option, Some, None, sym, ap, subst, ◌∙◌, arith}
use Rattle.std.specs.Prelude.{MatchOption}
use Rattle.vms_core.specs.Cells.{HasShape}
use Rattle.vms_core.specs.Pages.{History}
use Rattle.vms_core.specs.Steps.{role}
use Rattle.vms_core.proofs.Common.{laws-kept}
use Rattle.vms_page_words.specs.declared.words.PageWords.{PageWords}
use Rattle.vms_page_words.specs.Words.{state_of}
use Rattle.vms_plans.specs.declared.due_steps.DueStep.{DueStep}
use Rattle.vms_registers.specs.Shows.{held_by}
use Rattle.vms_world.specs.Common.{Act, CpuId, Event, Facts, Header, Item, Lane, MakesActs, PageSteps, State, Step}
use Rattle.vms_world.specs.Common.{ZoneSize, acts_of, facts_of, lives_in, owner_in}
use Rattle.vms_written.specs.Common.{GoesAlong}
use Rattle.vms_phase_checks.specs.declared.checks.PhaseCheck.{PhaseCheck}
use Rattle.vms_phase_checks.specs.Common.{Checks, GoesAlongLane, HasMadeLane, IsAloneIn, IsDueIn, IsDueOf, lane_in}
use Rattle.vms_phase_checks.proofs.CheckedSlots.{InSlot, alone-in, alone-with, stands-in}
use Rattle.vms_phase_checks.proofs.KeptFaults.{along-kept}
use Rattle.vms_phase_checks.proofs.Shown.{moved}

module _ {W : Type 0} (Stands : Header → State → Lane → ℕ → List Act → History → W → Type 0)
    (pressure normal : ZoneSize → ℕ → ℕ → Type 0) (header : Header) (s : State) (items : List Item) (h : History)
    (check : PhaseCheck W) (is : Checks Stands pressure normal header s items h check) (q slot : ℕ) where
  -- the pass that a slot holds lives
  pub lives-in_slot : q ≢ 0 → held_by check.registers.passes.holders slot ≡ q → lives_in role h q ≡ true
  lives-in_slot given here =
      ap (lives_in role h) (sym here) ∙ is.shows.hold.lives slot (λ none. given (sym here ∙ none))

  -- the numbers that stand fit the layout
  pub shaped-words : (words : PageWords) → words ≡ check.registers.own.words
      → HasShape check.facts.layout (state_of words)
  shaped-words words same =
      subst (λ (w : PageWords). HasShape check.facts.layout (state_of w)) (sym same)
      (subst (λ (f : Facts). HasShape f.layout (state_of check.registers.own.words)) (sym is.facts)
      (rw is.shows.own.words (laws-kept (facts_of header s) h is.shows.legal).shape))

  module _ (at : InSlot header h q slot) where
    abbrev cpus : ℕ
    cpus = header.layout.cpus

    -- what the walk is asked at this lane and these acts, and what it answers
    module _ (lane : Lane) (acts : List Act) (lane-is : lane ≡ lane_in cpus slot)
        (acts-is : acts ≡ acts_of (lane_in cpus slot) items) where
      pub asked-stands : (w : W) → get_or check.walks slot None ≡ Some w → Stands header s lane q acts h w
      asked-stands w walk-is = moved (λ (l : Lane) (xs : List Act). Stands header s l q xs h w) lane
          (lane_in cpus slot) acts (acts_of (lane_in cpus slot) items) lane-is acts-is
          (stands-in Stands pressure normal header s items h check is q slot at w walk-is)

      pub asked-alone : IsAloneIn header s lane q h
      asked-alone = subst (λ (l : Lane). IsAloneIn header s l q h) (sym lane-is)
          (alone-in Stands pressure normal header s items h check is q slot at)

      abbrev MadeAt : Lane → List Act → Type 0
      MadeAt l xs = MakesActs (PageSteps header s pressure normal l q) q xs h

      made-here : HasMadeLane header pressure normal s items (owner_in role h q) q h → MadeAt lane acts
      made-here made = moved MadeAt lane (lane_in cpus slot) acts (acts_of (lane_in cpus slot) items) lane-is acts-is
          (subst (λ (who : Option CpuId). HasMadeLane header pressure normal s items who q h) at.owns made)

      made-there : MadeAt lane acts → HasMadeLane header pressure normal s items (owner_in role h q) q h
      made-there made = subst (λ (who : Option CpuId). HasMadeLane header pressure normal s items who q h)
          (sym at.owns) (moved MadeAt (lane_in cpus slot) lane (acts_of (lane_in cpus slot) items) acts (sym lane-is)
          (sym acts-is) made)

      others : q ≢ 0
      others none = omega (arith, at.least, none)

      pub answered : (result : Option DueStep) → lives_in role h q ≡ true
          → MatchOption result (MadeAt lane acts)
          (λ due. (¬ MadeAt lane acts) × IsDueIn pressure normal header s lane q acts h due)
          → IsDueOf pressure normal header s items h q result
      answered None lives made = λ again. made-there made
      answered (Some due) lives (not_made, only) = (
        lives,
        (λ made. not_made (made-here made)),
        (λ step kept.
            let e : Event Step = record { caller = q; step = step } in
            only step
            (subst (λ (l : Lane). IsAloneIn header s l q (e ∷ h)) (sym lane-is)
            (alone-with Stands pressure normal header s items h check is q slot at e kept.legal others))
            (moved (λ (l : Lane) (xs : List Act). GoesAlong (PageSteps header s pressure normal l q) q xs (e ∷ h)) lane
            (lane_in cpus slot) acts (acts_of (lane_in cpus slot) items) lane-is acts-is
            (subst (λ (who : Option CpuId). GoesAlongLane header pressure normal s items who q (e ∷ h)) at.owns
            (along-kept header pressure normal s items h e kept others)))),
      )
