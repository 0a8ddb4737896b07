-- A recorded history with a segment more, and as a written one.
use Rattle.std.proofs.Common.{◌≡◌, ℕ, List, [], ◌∷◌, ◌++◌, ap, append_assoc, append-nil, refl, subst, sym, ◌∙◌}
use Rattle.vms_core.specs.Pages.{History, state_after}
use Rattle.vms_core.specs.Steps.{role}
use Rattle.vms_text.specs.declared.acts.Boundary.{Boundary as BoundaryOf}
use Rattle.vms_phase_lines.specs.Common.{IsPhaseInOrder, lane_makes}
use Rattle.vms_own_acts.specs.Common.{IsExactly}
use Rattle.vms_world.specs.Common.{Between, HasLanes, Header, Item, MakesLines, MayCross, Phase, Segment, State}
use Rattle.vms_world.specs.Common.{ZoneSize, facts_of, lanes_of, normal_threshold_of, pressure_threshold_of, settled}
use Rattle.vms_written.specs.Common.{CrossesPages, IsWrittenPhase, LeadsThrough}
use Rattle.vms_written.proofs.WrittenLanes.{IsWrittenPhase-of_lanes}
use Rattle.vms_recorded.specs.Histories.{LeadsInOrder, history_lines, phase_lines}

abbrev by_pressure : ZoneSize → ℕ → ℕ → Type 0
by_pressure = IsExactly pressure_threshold_of

abbrev by_normal : ZoneSize → ℕ → ℕ → Type 0
by_normal = IsExactly normal_threshold_of

pub history_lines-more : (hs : List History) (h : History)
    → history_lines (hs ++ h ∷ []) ≡ history_lines hs ++ phase_lines h
history_lines-more [] h = append-nil (phase_lines h)
history_lines-more (g ∷ hs) h =
    ap (λ (text : List ℕ). phase_lines g ++ text) (history_lines-more hs h)
    ∙ sym (append_assoc (phase_lines g) (history_lines hs) (phase_lines h))

module _ (header : Header) where
  -- one way after another
  pub leads-append : (segments : List Segment) (hs : List History) (s mid : State) (more : List Segment)
      (gs : List History) (last : State) → LeadsInOrder header segments hs s mid
      → LeadsInOrder header more gs mid last → LeadsInOrder header (segments ++ more) (hs ++ gs) s last
  leads-append [] [] s mid more gs last led later =
      subst (λ (x : State). LeadsInOrder header more gs x last) (sym led) later
  leads-append [] (h ∷ hs) s mid more gs last led later = absurd led
  leads-append (Phase items ∷ segments) [] s mid more gs last led later = absurd led
  leads-append (Phase items ∷ segments) (h ∷ hs) s mid more gs last (is, led) later =
      (is, leads-append segments hs (settled (state_after (facts_of header s) h)) mid more gs last led later)
  leads-append (Between number b ∷ segments) hs s mid more gs last (next, may, crosses, led) later =
      (next, may, crosses, leads-append segments hs next mid more gs last led later)

  pub leads-phase : (segments : List Segment) (hs : List History) (s mid : State) (items : List Item) (h : History)
      → LeadsInOrder header segments hs s mid → IsPhaseInOrder header mid items h
      → LeadsInOrder header (segments ++ Phase items ∷ []) (hs ++ h ∷ []) s
      (settled (state_after (facts_of header mid) h))
  leads-phase segments hs s mid items h led is =
      leads-append segments hs s mid (Phase items ∷ []) (h ∷ []) (settled (state_after (facts_of header mid) h)) led
      (is, refl)

  pub leads-boundary : (segments : List Segment) (hs : List History) (s mid next : State) (number : ℕ)
      (b : BoundaryOf) → LeadsInOrder header segments hs s mid → MayCross header.layout mid b
      → CrossesPages header by_normal b mid next → LeadsInOrder header (segments ++ Between number b ∷ []) hs s next
  leads-boundary segments hs s mid next number b led may crosses =
      subst (λ (gs : List History). LeadsInOrder header (segments ++ Between number b ∷ []) gs s next) (append-nil hs)
      (leads-append segments hs s mid (Between number b ∷ []) [] next led (next, may, crosses, refl))

  -- a phase in order is a written phase, where its lanes' passes begin in order and make their lines
  module _ (lanes : (s : State) (items : List Item) (h : History) → IsPhaseInOrder header s items h
      → HasLanes role (lanes_of header.layout items) h) (lines : (s : State) (items : List Item) (h : History)
      → IsPhaseInOrder header s items h
      → MakesLines (lane_makes header s) (lanes_of header.layout items) items h) where
    pub phase-written : (s : State) (items : List Item) (h : History) → IsPhaseInOrder header s items h
        → IsWrittenPhase header by_pressure by_normal s items h
    phase-written s items h is = IsWrittenPhase-of_lanes header by_pressure by_normal s items h is.complete
        (lanes s items h is) (lines s items h is)

    pub leads-written : (segments : List Segment) (hs : List History) (s last : State)
        → LeadsInOrder header segments hs s last → LeadsThrough header by_pressure by_normal segments hs s last
    leads-written [] [] s last led = led
    leads-written [] (h ∷ hs) s last led = absurd led
    leads-written (Phase items ∷ segments) [] s last led = absurd led
    leads-written (Phase items ∷ segments) (h ∷ hs) s last (is, led) = (
      phase-written s items h is,
      leads-written segments hs (settled (state_after (facts_of header s) h)) last led,
    )
    leads-written (Between number b ∷ segments) hs s last (next, may, crosses, led) =
        (next, may, crosses, leads-written segments hs next last led)
