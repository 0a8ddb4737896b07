-- For other crates too: what a step that meets its condition makes of thresholds, numbers of sets, marks, CPU states
-- and acknowledgements, and what stands of them after a legal history.
use Rattle.std.proofs.Common.{◌≡◌, ℕ, suc, ◌+◌, ◌*◌, ◌/◌, ◌&&◌, [], ◌∷◌, List, length, get_or, Option, Some, None, refl}
use Rattle.std.proofs.Common.{ap, ◌∙◌, add-one, length-set, if◌then◌else◌, nat_eq}
use Rattle.std.proofs.Math.ListN.{set}
use Rattle.vms_history.specs.Common.{CpuId, CpuState, Absent, IsLayout, IsCpu, IsPlace, IsZone, cell, place_count}
use Rattle.vms_history.specs.Common.{owner_in}
use Rattle.vms_history.specs.declared.events.Event.{Event}
use Rattle.vms_history.proofs.Common.{base_can_begin, get_or-set, get_or-changed, get_or-set_cell, get_or-changed_cell}
use Rattle.vms_core.specs.declared.states.State.{State}
use Rattle.vms_core.specs.declared.steps.Facts.{Facts}
use Rattle.vms_core.specs.declared.steps.Step.{Step}
use Rattle.vms_core.specs.declared.steps.Step.TheVariants.{SetT, SetM, SetO, SetA}
use Rattle.vms_core.specs.Common.{HasShape, places_of, zones_of, threshold_at, threshold_sets_at, mark_at, mark_sets_at}
use Rattle.vms_core.specs.Common.{cpu_at, acknowledged_at, with_mark, Meets, pages, History, IsLegal, state_after}
use Rattle.vms_core.specs.Common.{sets_after, threshold_after, cpu_after, TellsThresholds, TellsNumbers, TellsCpus}
use Rattle.vms_core.specs.Common.{role, effect}
pub use Rattle.vms_core.specs.Effects.{mark_after, mark_sets_after, acknowledged_after}
use Rattle.vms_core.proofs.Effects.{owned}
use Rattle.vms_core.proofs.PlainData.{places_of-shaped}
use Rattle.vms_core.proofs.Shapes.{HasShape-state_after}

-- what a CPU acknowledged last of a zone in a history
abbrev pub acknowledged_in : ℕ → ℕ → History → Option ℕ
acknowledged_in c g [] = None
acknowledged_in c g (e ∷ h) = acknowledged_after (owner_in role h e.caller) c g e.step (acknowledged_in c g h)

module _ (facts : Facts) (h : List (Event Step)) (s : State) (p : ℕ) (layout : IsLayout facts.layout)
    (shaped : HasShape facts.layout s) where
  places : places_of s ≡ place_count facts.layout
  places = places_of-shaped facts.layout s layout shaped

  -- a threshold's cell stands in its list
  thresholds-full : length s.threshold ≡ facts.layout.cpus * places_of s
  thresholds-full = rw places shaped.threshold

  sets-full : length s.threshold_sets ≡ facts.layout.cpus * places_of s
  sets-full = rw places shaped.threshold_sets

  acknowledged-full : length s.acknowledged ≡ facts.layout.cpus * zones_of s
  acknowledged-full = rw shaped.mark shaped.acknowledged

  -- the columns of the tables of places after a threshold or a CPU's state was written
  places-threshold : (n t : ℕ) → length (set s.threshold n t) / length s.cpu ≡ places_of s
  places-threshold n t = ap (λ m. m / length s.cpu) (length-set s.threshold n t)

  places-cpu : (c : ℕ) (x : CpuState) → length s.threshold / length (set s.cpu c x) ≡ places_of s
  places-cpu c x = ap (λ m. length s.threshold / m) (length-set s.cpu c x)

  threshold_at-set : (d f t c g : ℕ) → IsCpu facts.layout d → IsPlace facts.layout f → IsPlace facts.layout g
      → get_or (set s.threshold (cell (places_of s) d f) t)
      (cell (length (set s.threshold (cell (places_of s) d f) t) / length s.cpu) c g) 0
      ≡ (if nat_eq d c && nat_eq f g then t else threshold_at s c g)
  threshold_at-set d f t c g d_in f_in g_in =
      ap (λ n. get_or (set s.threshold (cell (places_of s) d f) t) (cell n c g) 0)
      (places-threshold (cell (places_of s) d f) t)
      ∙ get_or-set_cell (places_of s) facts.layout.cpus s.threshold d f c g t 0 thresholds-full d_in
      (rw places f_in) (rw places g_in)

  pub threshold_at-effect : (who : Option CpuId) (step : Step) (c g : ℕ) → Meets facts h s p step
      → IsPlace facts.layout g
      → threshold_at (effect facts who step s) c g ≡ threshold_after c g step (threshold_at s c g)
  threshold_at-effect None (SetT d f t) c g meets g_in =
      threshold_at-set d.number f.number t c g meets.cpu meets.place g_in
  threshold_at-effect (Some o) (SetT d f t) c g meets g_in =
      threshold_at-set d.number f.number t c g meets.cpu meets.place g_in
  threshold_at-effect None (SetO d) c g meets g_in =
      ap (λ n. get_or s.threshold (cell n c g) 0) (places-cpu d.number Absent)
  threshold_at-effect (Some o) (SetO d) c g meets g_in =
      ap (λ n. get_or s.threshold (cell n c g) 0) (places-cpu d.number Absent)
  threshold_at-effect None _ c g meets g_in = refl
  threshold_at-effect (Some o) _ c g meets g_in = refl

  sets-set : (d f t c g : ℕ) → IsCpu facts.layout d → IsPlace facts.layout f → IsPlace facts.layout g
      → get_or (set s.threshold_sets (cell (places_of s) d f) (threshold_sets_at s d f + 1))
      (cell (length (set s.threshold (cell (places_of s) d f) t) / length s.cpu) c g) 0
      ≡ (if nat_eq d c && nat_eq f g then suc (threshold_sets_at s c g) else threshold_sets_at s c g)
  sets-set d f t c g d_in f_in g_in =
      ap (λ n. get_or (set s.threshold_sets (cell (places_of s) d f) (threshold_sets_at s d f + 1)) (cell n c g) 0)
      (places-threshold (cell (places_of s) d f) t)
      ∙ get_or-changed_cell (places_of s) facts.layout.cpus (λ n. n + 1) s.threshold_sets d f c g 0
      sets-full d_in (rw places f_in) (rw places g_in)
      ∙ ap (λ n. if nat_eq d c && nat_eq f g then n else threshold_sets_at s c g) (add-one (threshold_sets_at s c g))

  pub sets-effect : (who : Option CpuId) (step : Step) (c g : ℕ) → Meets facts h s p step → IsPlace facts.layout g
      → threshold_sets_at (effect facts who step s) c g ≡ sets_after c g step (threshold_sets_at s c g)
  sets-effect None (SetT d f t) c g meets g_in = sets-set d.number f.number t c g meets.cpu meets.place g_in
  sets-effect (Some o) (SetT d f t) c g meets g_in = sets-set d.number f.number t c g meets.cpu meets.place g_in
  sets-effect None (SetO d) c g meets g_in =
      ap (λ n. get_or s.threshold_sets (cell n c g) 0) (places-cpu d.number Absent)
  sets-effect (Some o) (SetO d) c g meets g_in =
      ap (λ n. get_or s.threshold_sets (cell n c g) 0) (places-cpu d.number Absent)
  sets-effect None _ c g meets g_in = refl
  sets-effect (Some o) _ c g meets g_in = refl

  pub cpu_at-effect : (who : Option CpuId) (step : Step) (c : ℕ) → Meets facts h s p step
      → cpu_at (effect facts who step s) c ≡ cpu_after c step (cpu_at s c)
  cpu_at-effect None (SetO d) c meets = get_or-set s.cpu d.number c Absent Absent (rw shaped.cpu meets.cpu)
  cpu_at-effect (Some o) (SetO d) c meets = get_or-set s.cpu d.number c Absent Absent (rw shaped.cpu meets.cpu)
  cpu_at-effect None _ c meets = refl
  cpu_at-effect (Some o) _ c meets = refl

  pub mark_at-effect : (who : Option CpuId) (step : Step) (g : ℕ) → Meets facts h s p step
      → mark_at (effect facts who step s) g ≡ mark_after g step (mark_at s g)
  mark_at-effect None (SetM f m) g meets = get_or-set s.mark f.number g m 0 (rw shaped.mark meets.zone)
  mark_at-effect (Some o) (SetM f m) g meets = get_or-set s.mark f.number g m 0 (rw shaped.mark meets.zone)
  mark_at-effect None _ g meets = refl
  mark_at-effect (Some o) _ g meets = refl

  mark_sets_at-set : (f m g : ℕ) → IsZone facts.layout f
      → mark_sets_at (with_mark s f m) g ≡ (if nat_eq f g then suc (mark_sets_at s g) else mark_sets_at s g)
  mark_sets_at-set f m g f_in =
      get_or-changed (λ n. n + 1) s.mark_sets f g 0 (rw shaped.mark_sets f_in)
      ∙ ap (λ n. if nat_eq f g then n else mark_sets_at s g) (add-one (mark_sets_at s g))

  pub mark_sets_at-effect : (who : Option CpuId) (step : Step) (g : ℕ) → Meets facts h s p step
      → mark_sets_at (effect facts who step s) g ≡ mark_sets_after g step (mark_sets_at s g)
  mark_sets_at-effect None (SetM f m) g meets = mark_sets_at-set f.number m g meets.zone
  mark_sets_at-effect (Some o) (SetM f m) g meets = mark_sets_at-set f.number m g meets.zone
  mark_sets_at-effect None _ g meets = refl
  mark_sets_at-effect (Some o) _ g meets = refl

  pub acknowledged_at-effect : (who : Option CpuId) (step : Step) (c g : ℕ) → owner_in role h p ≡ who
      → Meets facts h s p step → IsZone facts.layout g
      → acknowledged_at (effect facts who step s) c g ≡ acknowledged_after who c g step (acknowledged_at s c g)
  acknowledged_at-effect (Some o) (SetA f a) c g is meets g_in =
      let same = owned facts h s p shaped o meets.cpu is meets.owns in
      get_or-set_cell (zones_of s) facts.layout.cpus s.acknowledged o.number f.number c g (Some a) None
      acknowledged-full (rw same at meets.owns.within) (rw shaped.mark meets.zone) (rw shaped.mark g_in)
  acknowledged_at-effect None (SetA f a) c g is meets g_in = let owner = meets.owns.owner in absurd cc
  acknowledged_at-effect None (SetM f m) c g is meets g_in =
      ap (λ n. get_or s.acknowledged (cell n c g) None) (length-set s.mark f.number m)
  acknowledged_at-effect (Some o) (SetM f m) c g is meets g_in =
      ap (λ n. get_or s.acknowledged (cell n c g) None) (length-set s.mark f.number m)
  acknowledged_at-effect None _ c g is meets g_in = refl
  acknowledged_at-effect (Some o) _ c g is meets g_in = refl

-- what the newest event of a legal history made of them
module _ (facts : Facts) (e : Event Step) (h : History) (legal : IsLegal facts (e ∷ h)) where
  layout : IsLayout facts.layout
  layout = (base_can_begin pages facts h legal.0).layout

  shaped : HasShape facts.layout (state_after facts h)
  shaped = HasShape-state_after facts h legal.0

  pub threshold_at-newest : (c g : ℕ) → IsPlace facts.layout g
      → threshold_at (state_after facts (e ∷ h)) c g
      ≡ threshold_after c g e.step (threshold_at (state_after facts h) c g)
  threshold_at-newest c g g_in =
      threshold_at-effect facts h (state_after facts h) e.caller layout shaped (owner_in role h e.caller) e.step c g
      legal.2 g_in

  pub sets-newest : (c g : ℕ) → IsPlace facts.layout g
      → threshold_sets_at (state_after facts (e ∷ h)) c g
      ≡ sets_after c g e.step (threshold_sets_at (state_after facts h) c g)
  sets-newest c g g_in =
      sets-effect facts h (state_after facts h) e.caller layout shaped (owner_in role h e.caller) e.step c g
      legal.2 g_in

  pub cpu_at-newest : (c : ℕ) → cpu_at (state_after facts (e ∷ h)) c
      ≡ cpu_after c e.step (cpu_at (state_after facts h) c)
  cpu_at-newest c =
      cpu_at-effect facts h (state_after facts h) e.caller layout shaped (owner_in role h e.caller) e.step c legal.2

  pub mark_at-newest : (g : ℕ)
      → mark_at (state_after facts (e ∷ h)) g ≡ mark_after g e.step (mark_at (state_after facts h) g)
  mark_at-newest g =
      mark_at-effect facts h (state_after facts h) e.caller layout shaped (owner_in role h e.caller) e.step g legal.2

  pub mark_sets_at-newest : (g : ℕ)
      → mark_sets_at (state_after facts (e ∷ h)) g ≡ mark_sets_after g e.step (mark_sets_at (state_after facts h) g)
  mark_sets_at-newest g =
      mark_sets_at-effect facts h (state_after facts h) e.caller layout shaped (owner_in role h e.caller) e.step g
      legal.2

  pub acknowledged_at-newest : (c g : ℕ) → IsZone facts.layout g → acknowledged_at (state_after facts (e ∷ h)) c g
      ≡ acknowledged_after (owner_in role h e.caller) c g e.step (acknowledged_at (state_after facts h) c g)
  acknowledged_at-newest c g zone =
      acknowledged_at-effect facts h (state_after facts h) e.caller layout shaped (owner_in role h e.caller) e.step c g
      refl legal.2 zone

-- what stands after a legal history
module _ (facts : Facts) where
  pub threshold_at-state_after : (h : History) → IsLegal facts h → TellsThresholds facts h
  threshold_at-state_after [] legal c g c_in g_in = refl
  threshold_at-state_after (e ∷ h) legal c g c_in g_in =
      threshold_at-newest facts e h legal c g g_in
      ∙ ap (threshold_after c g e.step) (threshold_at-state_after h legal.0 c g c_in g_in)

  pub sets-state_after : (h : History) → IsLegal facts h → TellsNumbers facts h
  sets-state_after [] legal c g c_in g_in = legal.opening.unset_thresholds c g c_in g_in
  sets-state_after (e ∷ h) legal c g c_in g_in =
      sets-newest facts e h legal c g g_in ∙ ap (sets_after c g e.step) (sets-state_after h legal.0 c g c_in g_in)

  pub cpu_at-state_after : (h : History) → IsLegal facts h → TellsCpus facts h
  cpu_at-state_after [] legal c c_in = refl
  cpu_at-state_after (e ∷ h) legal c c_in =
      cpu_at-newest facts e h legal c ∙ ap (cpu_after c e.step) (cpu_at-state_after h legal.0 c c_in)

  pub acknowledged_at-state_after : (h : History) → IsLegal facts h → (c g : ℕ) → IsCpu facts.layout c
      → IsZone facts.layout g → acknowledged_at (state_after facts h) c g ≡ acknowledged_in c g h
  acknowledged_at-state_after [] legal c g c_in zone = legal.opening.unacknowledged c g c_in zone
  acknowledged_at-state_after (e ∷ h) legal c g c_in zone =
      acknowledged_at-newest facts e h legal c g zone
      ∙ ap (acknowledged_after (owner_in role h e.caller) c g e.step)
      (acknowledged_at-state_after h legal.0 c g c_in zone)
