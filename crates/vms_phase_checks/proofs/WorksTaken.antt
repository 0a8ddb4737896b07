-- A step of a pass is taken if it is one of its lane's.
use Rattle.std.proofs.Common.{◌≡◌, ◌≢◌, ℕ, ◌+◌, List, ◌∷◌, get_or, Option, Some, None, sym, ap, subst, ◌∙◌, arith}
use Rattle.std.proofs.Math.ListN.{set}
use Rattle.vms_world.specs.Common.{Header, CpuId, ZoneSize, State, Step, Event, Act, Item, Lane, PageSteps, acts_of}
use Rattle.vms_world.specs.Common.{begun_in, facts_of, owner_in}
use Rattle.vms_history.proofs.Common.{owner_in-others}
use Rattle.vms_history.proofs.PassLaws.{begun_in-others}
use Rattle.vms_core.specs.Pages.{History, IsLegal}
use Rattle.vms_core.specs.Steps.{role}
use Rattle.vms_registers.specs.Shows.{Parts}
use Rattle.vms_page_registers.specs.declared.registers.PageRegisters.{PageRegisters}
use Rattle.vms_written.specs.Common.{GoesAlong}
use Rattle.vms_phase_checks.specs.declared.checks.PhaseCheck.{PhaseCheck}
use Rattle.vms_phase_checks.specs.Common.{Checks, GoesAlongLane, IsAloneIn, KeepsToLines, ShowsPages, Walked, lane_in}
use Rattle.vms_phase_checks.proofs.CheckedEvents.{Checks-set, StaysWithOthers, owner_of-slot, walks-stay}
use Rattle.vms_phase_checks.proofs.CheckedSlots.{InSlot, alone-with, stands-in}
use Rattle.vms_phase_checks.proofs.KeptEvents.{KeepsToLines-works}
use Rattle.vms_phase_checks.proofs.KeptFaults.{along-kept}
use Rattle.vms_phase_checks.proofs.Shown.{moved}

module _ {W : Type 0} (Stands : Header → State → Lane → ℕ → List Act → History → W → Type 0)
    (pressure normal : ZoneSize → ℕ → ℕ → Type 0) (stays : StaysWithOthers Stands) (header : Header) (s : State)
    (items : List Item) (h : History) (check : PhaseCheck W)
    (is : Checks Stands pressure normal header s items h check) (caller slot : ℕ) (step : Step)
    (at : InSlot header h caller slot)
    (legal : IsLegal (facts_of header s) (record { caller = caller; step = step } ∷ h)) where
  abbrev cpus : ℕ
  cpus = header.layout.cpus

  abbrev e : Event Step
  e = record { caller = caller; step = step }

  others : caller ≢ 0
  others none = omega (arith, at.least, none)

  same : begun_in role (e ∷ h) ≡ begun_in role h
  same = begun_in-others role e h others

  module _ (r : Parts PageRegisters) (shows : ShowsPages (facts_of header s) (e ∷ h) r) (later : W)
      (walked : Walked Stands pressure normal header s (lane_in cpus slot) caller (acts_of (lane_in cpus slot) items) h
      step later) where
    keeps : KeepsToLines header pressure normal s items (e ∷ h)
    keeps = KeepsToLines-works header pressure normal s items h is.keeps e legal others
        (subst (λ (who : Option CpuId). GoesAlongLane header pressure normal s items who caller (e ∷ h)) (sym at.owns)
        walked.along)

    pub Checks-worked : Checks Stands pressure normal header s items (e ∷ h)
        (record check { registers = r; walks = set check.walks slot (Some later); events = check.events + 1 })
    Checks-worked = Checks-set Stands pressure normal stays header s items h check is e keeps r shows slot at.slot_in
        (Some later)
        (caller, at.least, omega (arith, at.most, same), owner_in-others role e h caller others ∙ at.owns, walked.stands)
        (λ other other_in apart.
        walks-stay Stands pressure normal stays header s items h check is e other (λ q most. omega (arith, most, same))
        (λ q most. owner_in-others role e h q others) (λ q least most owns. omega (arith, most, same))
        (λ q least most owns one. apart (owner_of-slot cpus slot other
        (sym at.owns ∙ ap (owner_in role h) one ∙ owns))) (get_or check.walks other None) (is.walks other other_in))

    -- with the same walks
    pub Checks-worked_with : (walks : List (Option W)) → walks ≡ set check.walks slot (Some later)
        → Checks Stands pressure normal header s items (e ∷ h)
        (record check { registers = r; walks = walks; events = check.events + 1 })
    Checks-worked_with walks same_walks =
        subst (λ (ws : List (Option W)). Checks Stands pressure normal header s items (e ∷ h)
        (record check { registers = r; walks = ws; events = check.events + 1 })) (sym same_walks) Checks-worked

  pub no-work : ¬ GoesAlong (PageSteps header s pressure normal (lane_in cpus slot) caller) caller
      (acts_of (lane_in cpus slot) items) (e ∷ h) → ¬ KeepsToLines header pressure normal s items (e ∷ h)
  no-work none kept = none (subst (λ (who : Option CpuId). GoesAlongLane header pressure normal s items who caller
      (e ∷ h)) at.owns (along-kept header pressure normal s items h e kept others))

  -- what the walk is asked at this lane and these acts, and what it answers
  module _ (lane : Lane) (acts : List Act) (lane-is : lane ≡ lane_in cpus slot)
      (acts-is : acts ≡ acts_of (lane_in cpus slot) items) where
    pub asked-stands : (w : W) → get_or check.walks slot None ≡ Some w → Stands header s lane caller acts h w
    asked-stands w walk-is = moved (λ (l : Lane) (xs : List Act). Stands header s l caller xs h w) lane
        (lane_in cpus slot) acts (acts_of (lane_in cpus slot) items) lane-is acts-is
        (stands-in Stands pressure normal header s items h check is caller slot at w walk-is)

    pub asked-alone : IsAloneIn header s lane caller (e ∷ h)
    asked-alone = subst (λ (l : Lane). IsAloneIn header s l caller (e ∷ h)) (sym lane-is)
        (alone-with Stands pressure normal header s items h check is caller slot at e legal others)

    pub answered-none : ¬ GoesAlong (PageSteps header s pressure normal lane caller) caller acts (e ∷ h)
        → ¬ KeepsToLines header pressure normal s items (e ∷ h)
    answered-none none = no-work (moved (λ (l : Lane) (xs : List Act).
        ¬ GoesAlong (PageSteps header s pressure normal l caller) caller xs (e ∷ h)) (lane_in cpus slot) lane
        (acts_of (lane_in cpus slot) items) acts (sym lane-is) (sym acts-is) none)

    pub answered-some : (r : Parts PageRegisters) → ShowsPages (facts_of header s) (e ∷ h) r → (later : W)
        → Walked Stands pressure normal header s lane caller acts h step later → (walks : List (Option W))
        → walks ≡ set check.walks slot (Some later) → Checks Stands pressure normal header s items (e ∷ h)
        (record check { registers = r; walks = walks; events = check.events + 1 })
    answered-some r shows later walked walks same_walks = Checks-worked_with r shows later
        (moved (λ (l : Lane) (xs : List Act).
        Walked Stands pressure normal header s l caller xs h step later) (lane_in cpus slot) lane
        (acts_of (lane_in cpus slot) items) acts (sym lane-is) (sym acts-is) walked) walks same_walks
