-- Lists that go on with a line at fault are no written history.
use Rattle.std.proofs.Common.{◌≡◌, ℕ, List, [], ◌∷◌, ◌++◌, length, refl, sym, ap, subst, ◌∙◌, arith, append_assoc}
use Rattle.std.specs.Prelude.{Option, Some, None, reverse, option_and_then}
use Rattle.vms_world.specs.Common.{Event, GivesThresholds, Header, IsHeader, Item, Segment, State, Step, ZoneSize}
use Rattle.vms_world.specs.Common.{first_start}
use Rattle.vms_core.specs.Pages.{History}
use Rattle.vms_written.specs.Common.{IsWrittenHistory}
use Rattle.vms_written_lines.specs.declared.lines.WrittenLine.{WrittenLine}
use Rattle.vms_written_lines.specs.declared.lines.WrittenLine.TheVariants.{Blank, Event as EventLine}
use Rattle.vms_written_lines.specs.declared.lines.WrittenLine.TheVariants.{Phase as PhaseLine}
use Rattle.vms_written_lines.specs.declared.wide_steps.WideStep.{WideStep}
use Rattle.vms_written_lines.specs.WideSteps.{step_of}
use Rattle.vms_phase_checks.specs.declared.faults.EventCause.{EventCause}
use Rattle.vms_phase_checks.specs.declared.faults.EventCause.TheVariants.{BadEvent, Illegal, Incomplete, NotInScript}
use Rattle.vms_phase_checks.specs.Common.{IsEventFault, KeepsToLines}
use Rattle.vms_phase_checks.proofs.KeptPhases.{GoByOwn, KeepsToLines-first}
use Rattle.vms_history_checks.specs.Accepts.{IsLineFault}
use Rattle.vms_history_checks.specs.Bounds.{MayStandInTurn}
use Rattle.vms_history_checks.specs.Said.{with_lines, with_step}
use Rattle.vms_history_checks.proofs.KernelAnswers.{IsExact}
use Rattle.vms_history_checks.proofs.Ways.{reverse-more}
use Rattle.vms_history_checks.proofs.OneWay.{length-through, phase-of_history, through-of_history}

-- the lists after more lines begin with the older ones, and the next one ends with the one that was the newest
record Grown (h : History) (older all : List History) : Type 0 where
  pub added : History
  pub newer : List History
  pub is : reverse all ≡ reverse older ++ (added ++ h) ∷ newer

grown-phase : (h : History) (older all : List History) → Grown [] (h ∷ older) all → (g : History)
    × (newer : List History) × (reverse all ≡ reverse older ++ h ∷ g ∷ newer)
grown-phase h older all grown = (
  grown.added ++ [],
  grown.newer,
  grown.is ∙ ap (λ (gs : List History). gs ++ (grown.added ++ []) ∷ grown.newer) (reverse-more h older)
      ∙ append_assoc (reverse older) (h ∷ []) ((grown.added ++ []) ∷ grown.newer),
)

grown-of : (more : List (Option WrittenLine)) (h : History) (older all : List History)
    → with_lines more (h ∷ older) ≡ Some all → Grown h older all
grown-of [] h older all is =
    let same : h ∷ older ≡ all = cc in
    record { added = []; newer = []; is = ap reverse (sym same) ∙ reverse-more h older }
grown-of (None ∷ more) h older all is = absurd cc
grown-of (Some Blank ∷ more) h older all is = grown-of more h older all is
grown-of (Some PhaseLine ∷ more) h older all is =
    let on = grown-phase h older all (grown-of more [] (h ∷ older) all is) in
    record { added = []; newer = on.0 ∷ on.1; is = on.2 }
grown-of (Some (EventLine caller wide) ∷ more) h older all is =
    by (λ g on. grown-of more g older all on) (step_of wide) is
  where
    by : ((g : History) → with_lines more (g ∷ older) ≡ Some all → Grown g older all) → (found : Option Step)
        → option_and_then (with_lines more) (with_step caller found (h ∷ older)) ≡ Some all → Grown h older all
    by onwards None is = absurd cc
    by onwards (Some step) is =
        let e : Event Step = record { caller = caller; step = step } in
        let grown = onwards (e ∷ h) is in
        record {
          added = grown.added ++ e ∷ [];
          newer = grown.newer;
          is = grown.is
              ∙ ap (λ (g : History). reverse older ++ g ∷ grown.newer) (sym (append_assoc grown.added (e ∷ []) h));
        }

module _ (header : Header) (valid : IsHeader header) (pressure normal : ZoneSize → ℕ → ℕ → Type 0)
    (gives : GivesThresholds normal) (exact : IsExact normal) (by_own : GoByOwn pressure normal)
    (segments : List Segment) (stands : MayStandInTurn header first_start segments) where
  module _ (h : History) (older : List History) where
    -- an event
    module _ (caller : ℕ) (wide : WideStep) (step : Step) (step-is : step_of wide ≡ Some step) (more : History)
        (newer : List History) where
      abbrev e : Event Step
      e = record { caller = caller; step = step }

      kept-refused : (s : State) (items : List Item) (cause : EventCause)
          → IsEventFault pressure normal header s items h caller wide cause
          → KeepsToLines header pressure normal s items (e ∷ h) → ⊥
      kept-refused s items Illegal fault kept = fault step step-is kept.legal
      kept-refused s items NotInScript (taken, taken-is, legal, refused) kept =
          let same : step ≡ taken = some-is (sym step-is ∙ taken-is) in
          refused (subst (λ (k : Step). KeepsToLines header pressure normal s items
          (record { caller = caller; step = k } ∷ h)) same kept)
        where
          some-is : {a b : Step} → Some a ≡ Some b → a ≡ b
          some-is is = cc
      kept-refused s items BadEvent fault kept = absurd fault
      kept-refused s items Incomplete fault kept = absurd fault

      event-final : (cause : EventCause)
          → IsLineFault pressure normal header segments (h ∷ older) (Some (EventLine caller wide)) cause
          → ¬ IsWrittenHistory header pressure normal segments (reverse older ++ (more ++ e ∷ h) ∷ newer)
      event-final cause (s, items, left, begins, fault) is =
          kept-refused s items cause fault
          (KeepsToLines-first pressure normal header s items by_own more (e ∷ h)
          (phase-of_history header valid pressure normal gives exact segments stands older s items left begins
          (more ++ e ∷ h) newer is))

    -- a phase line
    module _ (g : History) (newer : List History) where
      phase-final : (cause : EventCause)
          → IsLineFault pressure normal header segments (h ∷ older) (Some PhaseLine) cause
          → ¬ IsWrittenHistory header pressure normal segments (reverse older ++ h ∷ g ∷ newer)
      phase-final NotInScript (s, items, left, begins, none) is =
          let through = through-of_history header valid pressure normal gives exact segments stands older s items left
          begins h (g ∷ newer) is in
          let count = length-through header valid pressure normal gives exact left (g ∷ newer) _ is.last through.1 in
          absurd (omega (arith, count, ap length none))
      phase-final Incomplete (s, items, left, begins, (some, open-phase)) is =
          open-phase (phase-of_history header valid pressure normal gives exact segments stands older s items left
          begins h (g ∷ newer) is)
      phase-final BadEvent (s, items, left, begins, fault) is = absurd fault
      phase-final Illegal (s, items, left, begins, fault) is = absurd fault

  -- whatever lines follow
  pub lines-final : (hs : List History) (said : Option WrittenLine) (cause : EventCause)
      (more : List (Option WrittenLine)) (all : List History)
      → IsLineFault pressure normal header segments hs said cause → with_lines (said ∷ more) hs ≡ Some all
      → ¬ IsWrittenHistory header pressure normal segments (reverse all)
  lines-final hs None cause more all fault lines is = absurd cc
  lines-final hs (Some Blank) cause more all fault lines is = absurd fault
  lines-final [] (Some PhaseLine) cause more all fault lines is =
      let grown = grown-of more [] [] all lines in
      let count = length-through header valid pressure normal gives exact segments (reverse all) _ is.last is.leads in
      absurd (omega (arith, count, ap (λ (gs : List History). length gs) grown.is, ap length fault.1))
  lines-final (h ∷ older) (Some PhaseLine) cause more all fault lines is =
      let on = grown-phase h older all (grown-of more [] (h ∷ older) all lines) in
      phase-final h older on.0 on.1 cause fault (subst (IsWrittenHistory header pressure normal segments) on.2 is)
  lines-final [] (Some (EventLine caller wide)) cause more all fault lines is = by (step_of wide) lines
    where
      by : (found : Option Step) → option_and_then (with_lines more) (with_step caller found []) ≡ Some all → ⊥
      by None lines = absurd cc
      by (Some step) lines = absurd cc
  lines-final (h ∷ older) (Some (EventLine caller wide)) cause more all fault lines is = by (step_of wide) refl lines
    where
      by : (found : Option Step) → step_of wide ≡ found
          → option_and_then (with_lines more) (with_step caller found (h ∷ older)) ≡ Some all → ⊥
      by None step-is lines = absurd cc
      by (Some step) step-is lines =
          let grown = grown-of more (record { caller = caller; step = step } ∷ h) older all lines in
          event-final h older caller wide step step-is grown.added grown.newer cause fault
          (subst (IsWrittenHistory header pressure normal segments) grown.is is)
