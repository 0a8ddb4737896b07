-- What is left after phases that are whole.
use Rattle.std.proofs.Common.{◌≡◌, ℕ, List, [], ◌∷◌, length, map, sym, subst, ◌∙◌, append-nil}
use Rattle.std.specs.Prelude.{Option, Some, None, Result, Ok, Err, IfOk, reverse}
use Rattle.std.proofs.lemmas.List.{length-reverse}
use Rattle.vms_world.specs.Common.{Phase, Segment, Act, AreAnswers, GivesThresholds, Header, IsHeader, Lane, Memory}
use Rattle.vms_world.specs.Common.{State, ZoneSize, bare_pages, facts_of, first_start, line_of, refreshed, settled}
use Rattle.vms_world.specs.Common.{start_at_end}
use Rattle.vms_core.specs.Pages.{History, state_after}
use Rattle.vms_written.specs.Common.{IsWrittenHistory, IsWrittenPhase, LeadsThrough}
use Rattle.vms_written_states.proofs.PhaseEnds.{IsPageStart-first, IsPageStart-left}
use Rattle.vms_phase_checks.specs.declared.checks.PhaseCheck.{PhaseCheck}
use Rattle.vms_history_checks.specs.Accepts.{IsAt, IsWholeAt}
use Rattle.vms_history_checks.specs.Bounds.{MayStandInTurn, scripts_of}
use Rattle.vms_history_checks.specs.Leads.{HasLed, LeadsOn}
use Rattle.vms_history_checks.specs.Leads.LeadsOn.{here, phase}
use Rattle.vms_history_checks.proofs.KernelAnswers.{AreAnswers-exact, IsExact, kernel_rule}
use Rattle.vms_history_checks.proofs.TakenEvents.{InPhase}
use Rattle.vms_history_checks.proofs.OneWay.{answers-of, boundaries-lead, led-on, length-through, phase-of_history}
use Rattle.vms_history_checks.proofs.OneWay.{zones-of}
use Rattle.vms_history_checks.proofs.Ways.{LeadsOn-append, reverse-more}

module _ {W : Type 0} (Stands : Header → State → Lane → ℕ → List Act → History → W → Type 0)
    (pressure normal : ZoneSize → ℕ → ℕ → Type 0) (gives : GivesThresholds normal) (exact : IsExact normal)
    (header : Header) (valid : IsHeader header) (segments : List Segment)
    (stands : MayStandInTurn header first_start segments) where
  abbrev At : List History → Option (PhaseCheck W) → List Segment → Type 0
  At = IsAt Stands pressure normal header segments

  abbrev Led : List History → List Segment → State → Type 0
  Led = HasLed header pressure normal segments

  -- before the first phase
  pub HasLed-first : (zones : List ℕ) → AreAnswers header normal header.layout.cpus zones
      → Led [] segments (refreshed header zones (bare_pages header))
  HasLed-first zones answers = record {
    zones = zones;
    answers = answers;
    leads = here segments (refreshed header zones (bare_pages header));
    start = first_start;
    begun = IsPageStart-first header valid normal gives zones answers;
    stands = stands;
  }

  -- after one that is whole
  pub HasLed-whole : (h : History) (older : List History) (check : PhaseCheck W) (left : List Segment)
      (at : At (h ∷ older) (Some check) left) → IsWrittenPhase header pressure normal at.s at.items h
      → Led (h ∷ older) left (settled (state_after (facts_of header at.s) h))
  HasLed-whole h older check left at whole = record {
    zones = at.begins.zones;
    answers = at.begins.answers;
    leads = subst (λ (lists : List History). LeadsOn header pressure normal segments lists
        (refreshed header at.begins.zones (bare_pages header)) left (settled (state_after (facts_of header at.s) h)))
        (sym (reverse-more h older))
        (LeadsOn-append header pressure normal segments (reverse older)
        (refreshed header at.begins.zones (bare_pages header)) (Phase at.items ∷ left) at.s at.begins.leads (h ∷ [])
        left (settled (state_after (facts_of header at.s) h))
        (phase at.items left h [] at.s left (settled (state_after (facts_of header at.s) h)) whole
        (here left (settled (state_after (facts_of header at.s) h)))));
    start = start_at_end at.start (map line_of at.items);
    begun = IsPageStart-left header pressure normal at.start at.s at.items h at.begun.volumes at.begun.is at.fits whole;
    stands = at.stands;
  }

  pub first-led : (hs : List History) (left : List Segment) → hs ≡ [] → left ≡ segments → (result : Result State Memory)
      → IfOk result (λ s. (zones : List ℕ) × AreAnswers header kernel_rule header.layout.cpus zones
      × (s ≡ refreshed header zones (bare_pages header))) → IfOk result (Led hs left)
  first-led hs left none all (Err e) is = tt
  first-led hs left none all (Ok s) (zones, are, same) =
      subst (λ (gs : List History). Led gs left s) (sym none)
      (subst (λ (xs : List Segment). Led [] xs s) (sym all)
      (subst (Led [] segments) (sym same) (HasLed-first zones
      (AreAnswers-exact header valid header.layout.cpus valid.is_layout.cpus_least valid.is_layout.cpus_most zones
      normal exact are))))

  pub settled-led : (hs : List History) (phase : Option (PhaseCheck W)) (left : List Segment) (at : At hs phase left)
      (p : PhaseCheck W) (here : InPhase Stands pressure normal header segments hs phase left at p)
      → IsWholeAt Stands pressure normal header segments hs phase left at → (result : Result State Memory)
      → IfOk result (λ next. next ≡ settled (state_after (facts_of header here.within.s) here.h))
      → IfOk result (Led hs left)
  settled-led hs now left at p found whole (Err e) is = tt
  settled-led hs now left at p found whole (Ok s) is =
      subst (λ (gs : List History). Led gs left s) (sym found.lists)
      (subst (Led (found.h ∷ found.older) left) (sym is)
      (HasLed-whole found.h found.older p left found.within (found.whole.0 whole)))

  -- where boundary lines alone are left, the lists are a written history
  pub IsWrittenHistory-led : (hs : List History) (left : List Segment) (s : State) → Led hs left s
      → scripts_of left ≡ [] → IsWrittenHistory header pressure normal segments (reverse hs)
  IsWrittenHistory-led hs left s led none =
      let on = boundaries-lead header valid pressure normal gives exact left none led.start s led.begun led.stands in
      record {
        zones = led.zones;
        answers = led.answers;
        last = on.0;
        leads = subst (λ (lists : List History). LeadsThrough header pressure normal segments lists
            (refreshed header led.zones (bare_pages header)) on.0) (append-nil (reverse hs))
            (led-on header valid pressure normal gives exact segments (reverse hs)
            (refreshed header led.zones (bare_pages header)) left s led.leads [] on.0 on.1);
      }

  -- a written history has a list for each phase
  pub each-phase : (hs : List History) → IsWrittenHistory header pressure normal segments (reverse hs)
      → length hs ≡ length (scripts_of segments)
  each-phase hs is = sym (length-reverse hs)
      ∙ length-through header valid pressure normal gives exact segments (reverse hs) _ is.last is.leads

  -- and its last phase is whole
  pub whole-last : (h : History) (older : List History) (check : PhaseCheck W) (left : List Segment)
      (at : At (h ∷ older) (Some check) left) → IsWrittenHistory header pressure normal segments (reverse (h ∷ older))
      → IsWrittenPhase header pressure normal at.s at.items h
  whole-last h older check left at is =
      phase-of_history header valid pressure normal gives exact segments stands older at.s at.items left at.begins h []
      (subst (IsWrittenHistory header pressure normal segments) (reverse-more h older) is)

  abbrev WholeAt : (hs : List History) (phase : Option (PhaseCheck W)) (left : List Segment) → At hs phase left → Type 0
  WholeAt = IsWholeAt Stands pressure normal header segments

  -- whether the lists are a written history
  pub whole-of_history : (hs : List History) (phase : Option (PhaseCheck W)) (left : List Segment)
      (at : At hs phase left) → IsWrittenHistory header pressure normal segments (reverse hs) → WholeAt hs phase left at
  whole-of_history [] None left at is = tt
  whole-of_history [] (Some check) left at is = absurd at
  whole-of_history (h ∷ older) None left at is = absurd at
  whole-of_history (h ∷ older) (Some check) left at is = whole-last h older check left at is

  pub history-of_whole : (hs : List History) (phase : Option (PhaseCheck W)) (left : List Segment)
      (at : At hs phase left) → WholeAt hs phase left at → scripts_of left ≡ []
      → IsWrittenHistory header pressure normal segments (reverse hs)
  history-of_whole [] None left at whole none =
      let zones = zones-of header valid pressure normal gives exact header.layout.cpus in
      IsWrittenHistory-led [] segments (refreshed header zones (bare_pages header))
      (HasLed-first zones (answers-of header valid pressure normal gives exact header.layout.cpus
      valid.is_layout.cpus_least valid.is_layout.cpus_most))
      (subst (λ (xs : List Segment). scripts_of xs ≡ []) at none)
  history-of_whole [] (Some check) left at whole none = absurd at
  history-of_whole (h ∷ older) None left at whole none = absurd at
  history-of_whole (h ∷ older) (Some check) left at whole none =
      IsWrittenHistory-led (h ∷ older) left (settled (state_after (facts_of header at.s) h))
      (HasLed-whole h older check left at whole) none
