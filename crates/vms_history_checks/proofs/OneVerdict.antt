-- A line is taken, or at fault with one cause.
use Rattle.std.proofs.Common.{◌≡◌, ◌≢◌, ℕ, ◌+◌, List, [], ◌∷◌, ◌++◌, length, map, refl, sym, ap, subst, ◌∙◌, append-nil}
use Rattle.std.proofs.Common.{arith}
use Rattle.std.specs.Prelude.{Option, Some, None, reverse}
use Rattle.vms_text.specs.declared.acts.Boundary.{Boundary as BoundaryOf}
use Rattle.vms_text.specs.declared.acts.Line.TheVariants.{Boundary}
use Rattle.vms_world.specs.Common.{Between, Phase, Segment, GivesThresholds, Header, IsHeader, Item, Start, State, Step}
use Rattle.vms_world.specs.Common.{ZoneSize, bare_pages, facts_of, first_start, line_of, refreshed, settled}
use Rattle.vms_world.specs.Common.{start_at_end, start_past}
use Rattle.vms_core.specs.Pages.{History, state_after}
use Rattle.vms_written.specs.Common.{CrossesPages, IsWrittenPhase}
use Rattle.vms_written_lines.specs.declared.lines.WrittenLine.{WrittenLine}
use Rattle.vms_written_lines.specs.declared.lines.WrittenLine.TheVariants.{Blank, Event as EventLine}
use Rattle.vms_written_lines.specs.declared.lines.WrittenLine.TheVariants.{Phase as PhaseLine}
use Rattle.vms_written_lines.specs.declared.wide_steps.WideStep.{WideStep}
use Rattle.vms_written_lines.specs.WideSteps.{step_of}
use Rattle.vms_written_states.specs.PageStarts.{IsPageStart}
use Rattle.vms_written_states.proofs.Crossings.{IsPageStart-crossed}
use Rattle.vms_written_states.proofs.PhaseEnds.{IsPageStart-first, IsPageStart-left}
use Rattle.vms_phase_checks.specs.declared.faults.EventCause.{EventCause}
use Rattle.vms_phase_checks.specs.declared.faults.EventCause.TheVariants.{BadEvent, Illegal, Incomplete, NotInScript}
use Rattle.vms_phase_checks.specs.Common.{IsEventFault, KeepsToLines}
use Rattle.vms_history_checks.specs.Accepts.{IsLineFault, IsPhaseFault}
use Rattle.vms_history_checks.specs.Bounds.{BeginsWithNoBoundary, MayStandInTurn, scripts_of}
use Rattle.vms_history_checks.specs.Leads.{Begins, BeginsHistory, LeadsOn}
use Rattle.vms_history_checks.specs.Leads.LeadsOn.{between, here, phase}
use Rattle.vms_history_checks.specs.Said.{with_said, with_step}
use Rattle.vms_history_checks.proofs.KernelAnswers.{AreAnswers-one, IsExact}
use Rattle.vms_history_checks.proofs.OneWay.{crossed-once}
use Rattle.vms_history_checks.proofs.Ways.{reverse-more}

module _ (header : Header) (pressure normal : ZoneSize → ℕ → ℕ → Type 0) where
  abbrev On : List Segment → List History → State → List Segment → State → Type 0
  On = LeadsOn header pressure normal

  -- a way to a phase crosses the boundary line that is first
  crossed-first : (number : ℕ) (b : BoundaryOf) (later : List Segment) (hs : List History) (s : State)
      (left : List Segment) (t : State) → On (Between number b ∷ later) hs s left t → BeginsWithNoBoundary left
      → (next : State) × CrossesPages header normal b s next × On later hs next left t
  crossed-first number b later hs s left t (here same at) first = absurd first
  crossed-first number b later hs s left t (between n c more others from next to end may crosses way) first =
      (next, crosses, way)

  -- and with a list it goes through the phase that is first
  phase-first : (items : List Item) (later : List Segment) (h : History) (hs : List History) (s : State)
      (left : List Segment) (t : State) → On (Phase items ∷ later) (h ∷ hs) s left t
      → IsWrittenPhase header pressure normal s items h
      × On later hs (settled (state_after (facts_of header s) h)) left t
  phase-first items later h hs s left t (phase lines more g others from to end is way) = (is, way)

  -- there is a list for each phase on the way
  length-on : (segments : List Segment) (hs : List History) (s : State) (left : List Segment) (t : State)
      → On segments hs s left t → length (scripts_of segments) ≡ length hs + length (scripts_of left)
  length-on segments hs s left t (here same at) = omega arith
  length-on segments hs s left t (phase items later h others from to end is way) =
      omega (arith, length-on later others (settled (state_after (facts_of header s) h)) left t way)
  length-on segments hs s left t (between number b later others from next to end may crosses way) =
      length-on later others next left t way

  module _ (valid : IsHeader header) (gives : GivesThresholds normal) (exact : IsExact normal) where
    -- a way with more lists goes on where one has led to a phase
    way-past : (segments : List Segment) (hs : List History) (s : State) (left : List Segment) (t : State)
        → On segments hs s left t → (start : Start) → IsPageStart header start s → MayStandInTurn header start segments
        → (rest : List History) (other : List Segment) (u : State) → BeginsWithNoBoundary other
        → On segments (hs ++ rest) s other u → On left rest t other u
    way-past segments hs s left t (here same at) start begun stands rest other u first on = on
    way-past segments hs s left t (phase items later h others from to end is way) start begun (some, fits, stands) rest
        other u first on =
        way-past later others (settled (state_after (facts_of header s) h)) left t way
        (start_at_end start (map line_of items))
        (IsPageStart-left header pressure normal start s items h begun.volumes begun.is fits is) stands rest other u
        first (phase-first items later h (others ++ rest) s other u on).1
    way-past segments hs s left t (between number b later others from next to end may crosses way) start begun
        (known, allowed, stands) rest other u first on =
        let crossed = crossed-first number b later (others ++ rest) s other u on first in
        way-past later others next left t way (start_past (Boundary b) start)
        (IsPageStart-crossed header normal gives start s next b begun known allowed crosses) stands rest other u first
        (subst (λ (x : State). On later (others ++ rest) x other u)
        (crossed-once header valid pressure normal gives exact start s begun b known crossed.0 next crossed.1 crosses)
        crossed.2)

    module _ (segments : List Segment) (stands : MayStandInTurn header first_start segments) (older : List History)
        (s : State) (items : List Item) (left : List Segment)
        (begins : Begins header pressure normal segments older s items left) where
      -- what begins after these lists and more of them comes after the phase that begins after these
      past-begun : (rest newer : List History) → reverse newer ≡ reverse older ++ rest → (t : State)
          (lines : List Item) (later : List Segment) → Begins header pressure normal segments newer t lines later
          → On (Phase items ∷ left) rest s (Phase lines ∷ later) t
      past-begun rest newer lists t lines later begun =
          let same : begun.zones ≡ begins.zones =
          AreAnswers-one header valid header.layout.cpus valid.is_layout.cpus_least valid.is_layout.cpus_most
          begun.zones normal exact begins.zones begun.answers begins.answers in
          way-past segments (reverse older) (refreshed header begins.zones (bare_pages header)) (Phase items ∷ left) s
          begins.leads first_start (IsPageStart-first header valid normal gives begins.zones begins.answers) stands rest
          (Phase lines ∷ later) t tt
          (subst (λ (gs : List History). On segments gs (refreshed header begins.zones (bare_pages header))
          (Phase lines ∷ later) t) lists
          (subst (λ (zones : List ℕ). On segments (reverse newer) (refreshed header zones (bare_pages header))
          (Phase lines ∷ later) t) same begun.leads))

      -- so what begins after the same lists is the same phase
      record IsSame (t : State) (lines : List Item) (later : List Segment) : Type 0 where
        pub state : t ≡ s
        pub items-are : lines ≡ items
        pub left-is : later ≡ left

      same-of : (t : State) (lines : List Item) (later : List Segment)
          → On (Phase items ∷ left) [] s (Phase lines ∷ later) t → IsSame t lines later
      same-of t lines later (here same at) = record { state = refl; items-are = refl; left-is = refl }

      same-begun : (t : State) (lines : List Item) (later : List Segment)
          → Begins header pressure normal segments older t lines later → IsSame t lines later
      same-begun t lines later begun =
          same-of t lines later (past-begun [] older (sym (append-nil (reverse older))) t lines later begun)

      -- and what begins after one list more comes after that phase, which is whole
      whole-before : (h : History) (t : State) (lines : List Item) (later : List Segment)
          → Begins header pressure normal segments (h ∷ older) t lines later
          → IsWrittenPhase header pressure normal s items h × (scripts_of left ≢ [])
      whole-before h t lines later begun =
          let on = phase-first items left h [] s (Phase lines ∷ later) t
          (past-begun (h ∷ []) (h ∷ older) (reverse-more h older) t lines later begun) in (
            on.0,
            λ none. absurd (omega (
              arith,
              ap length none,
              length-on left [] (settled (state_after (facts_of header s) h)) (Phase lines ∷ later) t on.1,
            )),
          )

    module _ (segments : List Segment) (stands : MayStandInTurn header first_start segments) where
      abbrev Fault : List History → Option WrittenLine → EventCause → Type 0
      Fault = IsLineFault pressure normal header segments

      -- after one phase its causes exclude each other
      one-of_phase : (s : State) (items : List Item) (left : List Segment) (h : History) (c d : EventCause)
          → IsPhaseFault pressure normal header segments s items left h c
          → IsPhaseFault pressure normal header segments s items left h d → c ≡ d
      one-of_phase s items left h NotInScript NotInScript one two = refl
      one-of_phase s items left h Incomplete Incomplete one two = refl
      one-of_phase s items left h NotInScript Incomplete one two = absurd (two.0 one)
      one-of_phase s items left h Incomplete NotInScript one two = absurd (one.0 two)
      one-of_phase s items left h BadEvent d one two = absurd one
      one-of_phase s items left h Illegal d one two = absurd one
      one-of_phase s items left h c BadEvent one two = absurd two
      one-of_phase s items left h c Illegal one two = absurd two

      one-of_event : (s : State) (items : List Item) (h : History) (caller : ℕ) (wide : WideStep) (c d : EventCause)
          → IsEventFault pressure normal header s items h caller wide c
          → IsEventFault pressure normal header s items h caller wide d → c ≡ d
      one-of_event s items h caller wide Illegal Illegal one two = refl
      one-of_event s items h caller wide NotInScript NotInScript one two = refl
      one-of_event s items h caller wide Illegal NotInScript one (step, is, legal, refused) = absurd (one step is legal)
      one-of_event s items h caller wide NotInScript Illegal (step, is, legal, refused) two = absurd (two step is legal)
      one-of_event s items h caller wide BadEvent d one two = absurd one
      one-of_event s items h caller wide Incomplete d one two = absurd one
      one-of_event s items h caller wide c BadEvent one two = absurd two
      one-of_event s items h caller wide c Incomplete one two = absurd two

      pub one-cause : (hs : List History) (said : Option WrittenLine) (c d : EventCause) → Fault hs said c
          → Fault hs said d → c ≡ d
      one-cause hs None c d one two = one ∙ sym two
      one-cause hs (Some Blank) c d one two = absurd one
      one-cause [] (Some PhaseLine) c d one two = one.0 ∙ sym two.0
      one-cause (h ∷ older) (Some PhaseLine) c d (s, items, left, begins, one) (t, lines, later, begun, two) =
          let same = same-begun segments stands older s items left begins t lines later begun in
          one-of_phase s items left h c d one
          (subst (λ (x : State). IsPhaseFault pressure normal header segments x items left h d) same.state
          (subst (λ (xs : List Item). IsPhaseFault pressure normal header segments t xs left h d) same.items-are
          (subst (λ (xs : List Segment). IsPhaseFault pressure normal header segments t lines xs h d) same.left-is
          two)))
      one-cause [] (Some (EventLine caller wide)) c d one two = one ∙ sym two
      one-cause (h ∷ older) (Some (EventLine caller wide)) c d (s, items, left, begins, one)
          (t, lines, later, begun, two) =
          let same = same-begun segments stands older s items left begins t lines later begun in
          one-of_event s items h caller wide c d one
          (subst (λ (x : State). IsEventFault pressure normal header x items h caller wide d) same.state
          (subst (λ (xs : List Item). IsEventFault pressure normal header t xs h caller wide d) same.items-are two))

      -- a line that may be taken
      taken-phase : (s : State) (items : List Item) (left : List Segment) (h : History) (c : EventCause)
          → IsPhaseFault pressure normal header segments s items left h c
          → IsWrittenPhase header pressure normal s items h × (scripts_of left ≢ []) → ⊥
      taken-phase s items left h NotInScript fault (whole, some) = some fault
      taken-phase s items left h Incomplete fault (whole, some) = fault.1 whole
      taken-phase s items left h BadEvent fault are = absurd fault
      taken-phase s items left h Illegal fault are = absurd fault

      taken-event : (s : State) (items : List Item) (h : History) (caller : ℕ) (wide : WideStep) (step : Step)
          → step_of wide ≡ Some step → (c : EventCause)
          → IsEventFault pressure normal header s items h caller wide c
          → KeepsToLines header pressure normal s items (record { caller = caller; step = step } ∷ h) → ⊥
      taken-event s items h caller wide step is Illegal fault keeps = fault step is keeps.legal
      taken-event s items h caller wide step is NotInScript (other, other-is, legal, refused) keeps =
          let same : step ≡ other = one (sym is ∙ other-is) in
          refused (subst (λ (k : Step). KeepsToLines header pressure normal s items
          (record { caller = caller; step = k } ∷ h)) same keeps)
        where
          one : {a b : Step} → Some a ≡ Some b → a ≡ b
          one is = cc
      taken-event s items h caller wide step is BadEvent fault keeps = absurd fault
      taken-event s items h caller wide step is Incomplete fault keeps = absurd fault

      pub not-both : (hs : List History) (said : Option WrittenLine) (c : EventCause) (next : List History)
          → with_said said hs ≡ Some next → BeginsHistory header pressure normal segments next → Fault hs said c → ⊥
      not-both hs None c next is begun fault = absurd cc
      not-both hs (Some Blank) c next is begun fault = absurd fault
      not-both [] (Some PhaseLine) c next is begun fault =
          let same : next ≡ [] ∷ [] = cc in
          let (t, lines, later, begins, keeps) = subst (BeginsHistory header pressure normal segments) same begun in
          absurd (omega (
            arith,
            ap length fault.1,
            length-on segments []
                (refreshed header begins.zones (bare_pages header)) (Phase lines ∷ later) t begins.leads,
          ))
      not-both (h ∷ older) (Some PhaseLine) c next is begun (s, items, left, begins, fault) =
          let same : next ≡ [] ∷ h ∷ older = cc in
          let (t, lines, later, on, keeps) = subst (BeginsHistory header pressure normal segments) same begun in
          taken-phase s items left h c fault (whole-before segments stands older s items left begins h t lines later on)
      not-both [] (Some (EventLine caller wide)) c next is begun fault = by (step_of wide) is
        where
          by : (found : Option Step) → with_step caller found [] ≡ Some next → ⊥
          by None is = absurd cc
          by (Some step) is = absurd cc
      not-both (h ∷ older) (Some (EventLine caller wide)) c next is begun (s, items, left, begins, fault) =
          by (step_of wide) refl is
        where
          by : (found : Option Step) → step_of wide ≡ found → with_step caller found (h ∷ older) ≡ Some next → ⊥
          by None step-is is = absurd cc
          by (Some step) step-is is =
              let same : next ≡ (record { caller = caller; step = step } ∷ h) ∷ older = cc in
              let (t, lines, later, on, keeps) = subst (BeginsHistory header pressure normal segments) same begun in
              let one = same-begun segments stands older s items left begins t lines later on in
              taken-event s items h caller wide step step-is c fault
              (subst (λ (x : State). KeepsToLines header pressure normal x items
              (record { caller = caller; step = step } ∷ h)) one.state
              (subst (λ (xs : List Item). KeepsToLines header pressure normal t xs
              (record { caller = caller; step = step } ∷ h)) one.items-are keeps))
