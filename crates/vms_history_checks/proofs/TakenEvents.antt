-- What an event makes of the lists that a check has accepted.
use Rattle.std.proofs.Common.{◌≡◌, ℕ, suc, ◌+◌, ◌≤◌, List, [], ◌∷◌, length, refl, sym, ap, subst, ◌∙◌, arith}
use Rattle.std.specs.Prelude.{◌↔◌, Option, Some, None, Ok, Err}
use Rattle.std.proofs.lemmas.List.Sums.{sum_by-cons}
use Rattle.vms_world.specs.Common.{Event as EventOf, Act, Header, Item, Lane, Segment, State, Step, ZoneSize}
use Rattle.vms_core.specs.Pages.{History}
use Rattle.vms_written.specs.Common.{IsWrittenPhase}
use Rattle.vms_written_lines.specs.declared.lines.WrittenLine.TheVariants.{Event}
use Rattle.vms_written_lines.specs.declared.wide_steps.WideStep.{WideStep}
use Rattle.vms_written_lines.specs.WideSteps.{step_of}
use Rattle.vms_phase_checks.specs.declared.checks.PhaseCheck.{PhaseCheck}
use Rattle.vms_phase_checks.specs.declared.faults.EventCause.{EventCause}
use Rattle.vms_phase_checks.specs.Common.{Checks, FitsSomewhere, IsEventFault}
use Rattle.vms_history_checks.specs.declared.checks.HistoryCheck.{HistoryCheck}
use Rattle.vms_history_checks.specs.declared.errors.CheckError.TheVariants.{Fault}
use Rattle.vms_history_checks.specs.Accepts.{Accepts, IsAt, IsWholeAt, IsWithin, events_in}
use Rattle.vms_history_checks.specs.Said.{with_said, with_step}
use Rattle.vms_history_checks.specs.Says.{IsSaidError, Says}

events-cons : (h : History) (older : List History) → events_in (h ∷ older) ≡ length h + events_in older
events-cons h older = sum_by-cons (λ (g : History). length g) h older

events-more : (e : EventOf Step) (h : History) (older : List History)
    → events_in ((e ∷ h) ∷ older) ≡ events_in (h ∷ older) + 1
events-more e h older = more (events_in ((e ∷ h) ∷ older)) (events_in (h ∷ older)) (length h) (events_in older)
    (events-cons (e ∷ h) older) (events-cons h older)
  where
    more : (n m k l : ℕ) → n ≡ suc k + l → m ≡ k + l → n ≡ m + 1
    more n m k l is was = omega (arith, is, was)

module _ {W : Type 0} (Stands : Header → State → Lane → ℕ → List Act → History → W → Type 0)
    (pressure normal : ZoneSize → ℕ → ℕ → Type 0) (header : Header) (segments : List Segment) where
  abbrev At : List History → Option (PhaseCheck W) → List Segment → Type 0
  At = IsAt Stands pressure normal header segments

  -- where a phase has begun there is a newest list
  pub record InPhase (hs : List History) (phase : Option (PhaseCheck W)) (left : List Segment) (at : At hs phase left)
      (p : PhaseCheck W) : Type 0 where
    pub h : History
    pub older : List History
    pub lists : hs ≡ h ∷ older
    pub within : IsWithin Stands pressure normal header segments older h p left
    pub whole : IsWholeAt Stands pressure normal header segments hs phase left at
        ↔ IsWrittenPhase header pressure normal within.s within.items h

  pub in-phase : (hs : List History) (phase : Option (PhaseCheck W)) (left : List Segment) (at : At hs phase left)
      (p : PhaseCheck W) → phase ≡ Some p → InPhase hs phase left at p
  in-phase [] None left at p same = absurd cc
  in-phase [] (Some phase) left at p same = absurd at
  in-phase (h ∷ older) None left at p same = absurd at
  in-phase (h ∷ older) (Some phase) left at p same =
      let one : phase ≡ p = cc in
      subst (λ (q : PhaseCheck W). InPhase (h ∷ older) (Some phase) left at q) one
      (record { h = h; older = older; lists = refl; within = at; whole = (λ w. w, λ w. w) })

  -- before the first phase there is none
  pub record BeforePhases (hs : List History) (phase : Option (PhaseCheck W)) (left : List Segment)
      (at : At hs phase left) : Type 0 where
    pub lists : hs ≡ []
    pub all : left ≡ segments
    pub whole : IsWholeAt Stands pressure normal header segments hs phase left at

  pub before-phases : (hs : List History) (phase : Option (PhaseCheck W)) (left : List Segment) (at : At hs phase left)
      → phase ≡ None → BeforePhases hs phase left at
  before-phases [] None left at same = record { lists = refl; all = at; whole = tt }
  before-phases [] (Some phase) left at same = absurd at
  before-phases (h ∷ older) None left at same = absurd at
  before-phases (h ∷ older) (Some phase) left at same = absurd cc

  pub fits-within : (older : List History) (h : History) (phase : PhaseCheck W) (left : List Segment)
      (within : IsWithin Stands pressure normal header segments older h phase left) → FitsSomewhere header within.items
  fits-within older h phase left within =
      record { start = within.start; fits = within.fits; within = within.begun.is.within }

  -- it has no more events than there are
  pub few-events : (hs : List History) (check : HistoryCheck W) (accepts : Accepts Stands pressure normal header
      segments hs check) (p : PhaseCheck W) (here : InPhase hs check.phase accepts.left accepts.at p)
      → p.events ≤ check.events
  few-events hs check accepts p here =
      few p.events check.events (length here.h) (events_in here.older) here.within.checks.counted
      (sym (events-cons here.h here.older) ∙ ap events_in (sym here.lists) ∙ accepts.events)
    where
      few : (n m k l : ℕ) → k ≡ n → k + l ≡ m → n ≤ m
      few n m k l is all = omega (arith, is, all)

  module _ (check : HistoryCheck W) (p : PhaseCheck W) (phase-is : check.phase ≡ Some p) (caller : ℕ) (wide : WideStep)
      (next : PhaseCheck W) where
    -- it is taken
    module _ (takes : (s : State) (items : List Item) (h : History) → FitsSomewhere header items
        → Checks Stands pressure normal header s items h p → (taken : Step) × (step_of wide ≡ Some taken)
        × Checks Stands pressure normal header s items (record { caller = caller; step = taken } ∷ h) next) where
      abbrev new : HistoryCheck W
      new = record check { phase = Some next; events = check.events + 1; lines = check.lines + 1 }

      abbrev taken-at : (hs : List History) (accepts : Accepts Stands pressure normal header segments hs check)
          (here : InPhase hs check.phase accepts.left accepts.at p) → (taken : Step) × (step_of wide ≡ Some taken)
          × Checks Stands pressure normal header here.within.s here.within.items
          (record { caller = caller; step = taken } ∷ here.h) next
      taken-at hs accepts here =
          takes here.within.s here.within.items here.h (fits-within here.older here.h p accepts.left here.within)
          here.within.checks

      accepts-new : (hs : List History) (accepts : Accepts Stands pressure normal header segments hs check)
          (here : InPhase hs check.phase accepts.left accepts.at p)
          → Accepts Stands pressure normal header segments
          ((record { caller = caller; step = (taken-at hs accepts here).0 } ∷ here.h) ∷ here.older) new
      accepts-new hs accepts here =
          let within = here.within in
          record {
            all = accepts.all;
            left = accepts.left;
            at = record {
              s = within.s;
              items = within.items;
              begins = within.begins;
              checks = (taken-at hs accepts here).2;
              start = within.start;
              begun = within.begun;
              fits = within.fits;
              stands = within.stands;
            };
            begun = omega (arith, accepts.begun, ap (λ (gs : List History). length gs) here.lists);
            crossed = accepts.crossed;
            bounds = accepts.bounds;
            all_scripts = accepts.all_scripts;
            few = accepts.few;
            scripts = accepts.scripts;
            events = events-more (record { caller = caller; step = (taken-at hs accepts here).0 }) here.h here.older
                ∙ ap (λ (n : ℕ). n + 1) (ap events_in (sym here.lists) ∙ accepts.events);
            lines = omega (arith, accepts.lines);
          }

      pub says-taken : (hs : List History) → Accepts Stands pressure normal header segments hs check
          → Says Stands pressure normal header segments hs (Some (Event caller wide)) check new (Ok tt)
      says-taken hs accepts =
          let here = in-phase hs check.phase accepts.left accepts.at p phase-is in
          let taken = taken-at hs accepts here in (
            (record { caller = caller; step = taken.0 } ∷ here.h) ∷ here.older,
            subst (λ (gs : List History). with_said (Some (Event caller wide)) gs
                ≡ Some ((record { caller = caller; step = taken.0 } ∷ here.h) ∷ here.older)) (sym here.lists)
                (ap (λ (step : Option Step). with_step caller step (here.h ∷ here.older)) taken.1),
            accepts-new hs accepts here,
            refl,
          )

    -- it is at fault
    pub says-fault : (cause : EventCause) → ((s : State) (items : List Item) (h : History) → FitsSomewhere header items
        → Checks Stands pressure normal header s items h p
        → (next ≡ p) × IsEventFault pressure normal header s items h caller wide cause)
        → (hs : List History) → Accepts Stands pressure normal header segments hs check
        → Says Stands pressure normal header segments hs (Some (Event caller wide)) check
        (record check { phase = Some next }) (Err (Fault cause))
    says-fault cause faults hs accepts =
        let here = in-phase hs check.phase accepts.left accepts.at p phase-is in
        let fits = fits-within here.older here.h p accepts.left here.within in
        let fault = faults here.within.s here.within.items here.h fits here.within.checks in (
          ap (λ (x : Option (PhaseCheck W)). record check { phase = x }) (ap (λ (q : PhaseCheck W). Some q) fault.0
              ∙ sym phase-is),
          subst (λ (gs : List History). IsSaidError Stands pressure normal header segments gs (Some (Event caller wide))
              (Fault cause)) (sym here.lists)
              (here.within.s, here.within.items, accepts.left, here.within.begins, fault.1),
        )
