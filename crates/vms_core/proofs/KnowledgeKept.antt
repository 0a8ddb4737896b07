-- For other crates too: what a pass that made no step since knows of a history that went on.
use Rattle.std.proofs.Common.{◌≡◌, ◌≢◌, ℕ, ◌≤◌, ◌&&◌, true, [], ◌∷◌, ◌++◌, Option, Some, None, refl, sym, ap, ◌∙◌}
use Rattle.std.proofs.Common.{subst, arith, nat_eq, eqb-true, unsigned_abs}
use Rattle.std.proofs.lemmas.Bool.{and_parts}
use Rattle.vms_history.specs.Common.{CpuId, CpuState, own, Acts, owner_in, lives_in, begun_in}
use Rattle.vms_history.specs.declared.events.Event.{Event}
use Rattle.vms_history.proofs.Common.{if-never, holds_while_live, own-none, own-on_top, same_cpu, owner_is_caller}
use Rattle.vms_history.proofs.Common.{live_is_given, owner_in-append, owner_acts_alone, prefix_is_legal}
use Rattle.vms_history.proofs.Common.{count_below-same}
use Rattle.vms_core.specs.declared.states.State.{State}
use Rattle.vms_core.specs.declared.steps.Facts.{Facts}
use Rattle.vms_core.specs.declared.steps.Step.{Step}
use Rattle.vms_core.specs.declared.steps.Step.TheVariants.{Put, SetT, SetM, SetO, LoadA}
use Rattle.vms_core.specs.Common.{Meets, GoesOnWithout, OwnerKnows, ControlKnows, pages, History, IsLegal, state_after}
use Rattle.vms_core.specs.Common.{sets, sets_after, threshold_in, threshold_after, peak, peak_after, peak_sum, cpu_in}
use Rattle.vms_core.specs.Common.{cpu_after, if_present, role, effect, spent, spent_by}

-- a step of a caller that isn't the control pass leaves what the control pass alone sets
module _ (facts : Facts) (g : History) (s : State) (q : ℕ) (elsewhere : q ≢ 0 → owner_in role g q ≡ None → ⊥) where
  record Leaves (after : State) : Type 0 where
    pub thresholds : after.threshold ≡ s.threshold
    pub threshold_sets : after.threshold_sets ≡ s.threshold_sets
    pub marks : after.mark ≡ s.mark
    pub mark_sets : after.mark_sets ≡ s.mark_sets
    pub cpus : after.cpu ≡ s.cpu

  step-leaves : (who : Option CpuId) (step : Step) → Acts pages facts g q (role step) → Meets facts g s q step
      → Leaves (effect facts who step s)
  step-leaves None (SetT c z t) acts meets = absurd (elsewhere acts.0 meets.control)
  step-leaves (Some o) (SetT c z t) acts meets = absurd (elsewhere acts.0 meets.control)
  step-leaves None (SetM z m) acts meets = absurd (elsewhere acts.0 meets.control)
  step-leaves (Some o) (SetM z m) acts meets = absurd (elsewhere acts.0 meets.control)
  step-leaves None (SetO c) acts meets = absurd (elsewhere acts.0 meets.control)
  step-leaves (Some o) (SetO c) acts meets = absurd (elsewhere acts.0 meets.control)
  step-leaves None _ acts meets =
      record { thresholds = refl; threshold_sets = refl; marks = refl; mark_sets = refl; cpus = refl }
  step-leaves (Some o) _ acts meets =
      record { thresholds = refl; threshold_sets = refl; marks = refl; mark_sets = refl; cpus = refl }

  peak_after-others : (number threshold c z : ℕ) (step : Step) (before : ℕ) → Acts pages facts g q (role step)
      → Meets facts g s q step → peak_after number threshold c z step before ≡ before
  peak_after-others number threshold c z (SetT d f t) before acts meets = absurd (elsewhere acts.0 meets.control)
  peak_after-others number threshold c z (LoadA d f x) before acts meets = absurd (elsewhere acts.0 meets.control)
  peak_after-others number threshold c z _ before acts meets = refl

  sets_after-others : (c z : ℕ) (step : Step) (before : ℕ) → Acts pages facts g q (role step) → Meets facts g s q step
      → sets_after c z step before ≡ before
  sets_after-others c z (SetT d f t) before acts meets = absurd (elsewhere acts.0 meets.control)
  sets_after-others c z _ before acts meets = refl

  threshold_after-others : (c z : ℕ) (step : Step) (before : ℕ) → Acts pages facts g q (role step)
      → Meets facts g s q step
      → threshold_after c z step before ≡ before
  threshold_after-others c z (SetT d f t) before acts meets = absurd (elsewhere acts.0 meets.control)
  threshold_after-others c z _ before acts meets = refl

  cpu_after-others : (c : ℕ) (step : Step) (before : CpuState) → Acts pages facts g q (role step)
      → Meets facts g s q step
      → cpu_after c step before ≡ before
  cpu_after-others c (SetO d) before acts meets = absurd (elsewhere acts.0 meets.control)
  cpu_after-others c _ before acts meets = refl

-- what a further event makes of equal numbers is equal
next_peak_sum-same : (facts : Facts) (later earlier : History) → ((c g : ℕ) → sets c g later ≡ sets c g earlier)
    → ((c g : ℕ) → threshold_in facts c g later ≡ threshold_in facts c g earlier)
    → ((c : ℕ) → cpu_in facts c later ≡ cpu_in facts c earlier)
    → ((c g : ℕ) → peak facts c g later ≡ peak facts c g earlier)
    → (e : Event Step) (g : ℕ) → peak_sum facts g (e ∷ later) ≡ peak_sum facts g (e ∷ earlier)
next_peak_sum-same facts later earlier sets_same newest_same states_same peaks_same e g =
    count_below-same (λ c. if_present (cpu_in facts c (e ∷ later)) (peak facts c g (e ∷ later)))
    (λ c. if_present (cpu_in facts c (e ∷ earlier)) (peak facts c g (e ∷ earlier))) facts.layout.cpus
    (λ c c_in. rw (sets_same c g, newest_same c g, states_same c, peaks_same c g) refl)

pub event-leaves : (facts : Facts) (e : Event Step) (g : History) → IsLegal facts (e ∷ g)
    → (e.caller ≢ 0 → owner_in role g e.caller ≡ None → ⊥) → ControlKnows facts (e ∷ g) g
event-leaves facts e g legal elsewhere =
    let s = state_after facts g in
    let leaves = step-leaves facts g s e.caller elsewhere (owner_in role g e.caller) e.step legal.1 legal.2 in
    let numbers : (c z : ℕ) → sets c z (e ∷ g) ≡ sets c z g = λ c z.
    sets_after-others facts g s e.caller elsewhere c z e.step (sets c z g) legal.1 legal.2 in
    let newest : (c z : ℕ) → threshold_in facts c z (e ∷ g) ≡ threshold_in facts c z g = λ c z.
    threshold_after-others facts g s e.caller elsewhere c z e.step (threshold_in facts c z g) legal.1 legal.2 in
    let peaks : (c z : ℕ) → peak facts c z (e ∷ g) ≡ peak facts c z g = λ c z.
    peak_after-others facts g s e.caller elsewhere (sets c z g) (threshold_in facts c z g) c z e.step
    (peak facts c z g) legal.1 legal.2 in
    let states : (c : ℕ) → cpu_in facts c (e ∷ g) ≡ cpu_in facts c g = λ c.
    cpu_after-others facts g s e.caller elsewhere c e.step (cpu_in facts c g) legal.1 legal.2 in
    record {
      thresholds = λ c z. rw (leaves.thresholds, leaves.cpus) refl;
      threshold_sets = λ c z. rw (leaves.thresholds, leaves.threshold_sets, leaves.cpus) refl;
      marks = λ z. rw leaves.marks refl;
      mark_sets = λ z. rw leaves.mark_sets refl;
      cpus = λ c. rw leaves.cpus refl;
      sets = numbers;
      newest = newest;
      states = states;
      peaks = peaks;
      peak_sums = λ z.
          count_below-same (λ c. if_present (cpu_in facts c (e ∷ g)) (peak facts c z (e ∷ g)))
          (λ c. if_present (cpu_in facts c g) (peak facts c z g)) facts.layout.cpus
          (λ c c_in. ap (λ x. if_present x (peak facts c z (e ∷ g))) (states c)
          ∙ ap (if_present (cpu_in facts c g)) (peaks c z));
      next_peak_sums = next_peak_sum-same facts (e ∷ g) g numbers newest states peaks;
    }

-- nothing changed in no time, and what stood twice stood all the time
pub knows-none : (facts : Facts) (h : History) → ControlKnows facts h h
knows-none facts h = record {
  thresholds = λ c g. refl;
  threshold_sets = λ c g. refl;
  marks = λ g. refl;
  mark_sets = λ g. refl;
  cpus = λ c. refl;
  sets = λ c g. refl;
  newest = λ c g. refl;
  states = λ c. refl;
  peaks = λ c g. refl;
  peak_sums = λ g. refl;
  next_peak_sums = λ next g. refl;
}

pub knows-both : (facts : Facts) (last later earlier : History) → ControlKnows facts last later
    → ControlKnows facts later earlier → ControlKnows facts last earlier
knows-both facts last later earlier second first = record {
  thresholds = λ c g. second.thresholds c g ∙ first.thresholds c g;
  threshold_sets = λ c g. second.threshold_sets c g ∙ first.threshold_sets c g;
  marks = λ g. second.marks g ∙ first.marks g;
  mark_sets = λ g. second.mark_sets g ∙ first.mark_sets g;
  cpus = λ c. second.cpus c ∙ first.cpus c;
  sets = λ c g. second.sets c g ∙ first.sets c g;
  newest = λ c g. second.newest c g ∙ first.newest c g;
  states = λ c. second.states c ∙ first.states c;
  peaks = λ c g. second.peaks c g ∙ first.peaks c g;
  peak_sums = λ g. second.peak_sums g ∙ first.peak_sums g;
  next_peak_sums = λ next g. second.next_peak_sums next g ∙ first.next_peak_sums next g;
}

-- a step of another than the owner of a CPU spends nothing of it
pub spent_by-others : (who : Option CpuId) (c : CpuId) (k : ℕ) (step : Step) → who ≢ Some c
    → spent_by who c.number k step ≡ 0
spent_by-others (Some d) c k (Put l w t delta how) other =
    if-never (nat_eq d.number c.number && nat_eq l.number k) (unsigned_abs delta) 0 (λ here.
    let cpus = (and_parts (nat_eq d.number c.number) (nat_eq l.number k) here).0 in
    other (ap Some (same_cpu d c (eqb-true d.number c.number cpus))))
spent_by-others (Some d) c k _ other = refl
spent_by-others None c k _ other = refl

-- what may be said of a beginning that a later history goes on from
module _ (facts : Facts) (later earlier : History) (p : ℕ) (goes : GoesOnWithout facts later earlier p) where
  abbrev more : History
  more = goes.extends.0

  legal : IsLegal facts (more ++ earlier)
  legal = subst (IsLegal facts) goes.extends.1 goes.legal

  given : p ≤ begun_in role earlier
  given = (live_is_given pages facts earlier p (prefix_is_legal pages facts more earlier legal) goes.lived).1

  -- what the steps of others leave, while p lives
  holds_later : (Holds : History → Type 0)
      → ((e : Event Step) (m : History) → IsLegal facts (e ∷ (m ++ earlier)) → lives_in role (m ++ earlier) p ≡ true
      → owner_in role (m ++ earlier) p ≡ owner_in role earlier p → e.caller ≢ p
      → Holds (m ++ earlier) → Holds (e ∷ (m ++ earlier)))
      → Holds earlier → Holds later
  holds_later Holds step holds =
      subst Holds (sym goes.extends.1)
      (holds_while_live pages facts earlier p Holds (λ es. es ≡ []) (λ e es is. absurd cc)
      (λ e m legal lives owner none. step e m legal lives owner (own-none e m p none).0)
      given holds more legal (subst (λ (g : History). lives_in role g p ≡ true) goes.extends.1 goes.lives)
      (own-on_top more earlier p [] (subst (λ (g : History). own g p ≡ own earlier p) goes.extends.1 goes.own_same)))

  pub owner_in-goes_on : owner_in role later p ≡ owner_in role earlier p
  owner_in-goes_on =
      ap (λ (g : History). owner_in role g p) goes.extends.1 ∙ owner_in-append pages facts more earlier p legal given

  -- a pass that owns no CPU is the control pass, the only one
  pub control-knows_later : owner_in role earlier p ≡ None → ControlKnows facts later earlier
  control-knows_later control =
      holds_later (λ g. ControlKnows facts g earlier) knows
      (knows-none facts earlier)
    where
      knows : (e : Event Step) (m : History) → IsLegal facts (e ∷ (m ++ earlier))
          → lives_in role (m ++ earlier) p ≡ true
          → owner_in role (m ++ earlier) p ≡ owner_in role earlier p → e.caller ≢ p
          → ControlKnows facts (m ++ earlier) earlier → ControlKnows facts (e ∷ (m ++ earlier)) earlier
      knows e m legal lives same others before =
          let leaves = event-leaves facts e (m ++ earlier) legal (λ other none.
          others (owner_acts_alone pages facts e (m ++ earlier) p legal other lives (none ∙ sym (same ∙ control)))) in
          knows-both facts (e ∷ (m ++ earlier)) (m ++ earlier) earlier leaves before

-- a pass that owns a CPU knows what the CPU spent
pub OwnerKnows-holds : (facts : Facts) (later earlier : History) (p : ℕ) (c : CpuId)
    → GoesOnWithout facts later earlier p
    → owner_in role earlier p ≡ Some c → OwnerKnows later earlier p c
OwnerKnows-holds facts later earlier p c goes owner =
    record {
      owner = owner_in-goes_on facts later earlier p goes ∙ owner;
      volumes = λ k.
          holds_later facts later earlier p goes (λ g. spent g c.number k ≡ spent earlier c.number k)
          (λ e m legal lives same others before.
          let nothing = spent_by-others (owner_in role (m ++ earlier) e.caller) c k e.step (λ acts_for.
          others (owner_is_caller pages facts e (m ++ earlier) p c legal lives (same ∙ owner) acts_for)) in
          omega (arith, nothing, before))
          refl;
    }
