-- A visit of a zone makes the steps of its relation, and what is known after it.
use Rattle.std.proofs.Common.{◌≡◌, ℕ, nat_eq, if◌then◌else◌, Bool, true, false, eqb-true, List, [], ◌∷◌, ◌++◌, length}
use Rattle.std.proofs.Common.{map, None, Option, refl, sym, ap, ◌∙◌, subst, arith}
use Rattle.std.proofs.lemmas.Bool.{eqb-false}
use Rattle.std.proofs.lemmas.List.{append-nil, length-map}
use Rattle.vms_calls.specs.Common.{Header, CpuId, CpuState, ZoneSize, cover_mark_of, linux_mark_of, IsLayout, IsZone}
use Rattle.vms_calls.specs.Common.{size_at, after, LeadsOn, State, Facts, Step, LoadM, SetM, HasShape, acknowledged_at}
use Rattle.vms_calls.specs.Common.{cpu_at, mark_at, mark_sets_at, with_mark, with_threshold, History, cpu_in}
use Rattle.vms_calls.specs.Common.{if_present, peak, peak_sum, facts_of, ByNormal, ByPressure, Rates, RatesMarked}
use Rattle.vms_calls.specs.Common.{Visits, acknowledged_steps, mark_for, mark_steps, rating_steps, threshold_steps}
use Rattle.vms_calls.specs.Common.{unmarked, marked as has_mark, choice_of, is_spared, rated_by}
use Rattle.vms_history.proofs.Common.{count_below-same, after-steps, LeadsOn-append}
use Rattle.vms_calls.specs.declared.choices.Rating.{Rating}
use Rattle.vms_calls.specs.declared.choices.Rating.TheVariants.{Pressure, Normal, Refresh}
use Rattle.vms_plain_control.specs.Common.{MakesPart, KnowsState, peak_in, hidden_by, peaks_lowered, mark_by, marked}
use Rattle.vms_plain_control.specs.Common.{online_in, peaks_raised, rated, with_place_thresholds}
use Rattle.vms_plain_pages.specs.Common.{pages_by_state}
use Rattle.vms_plain_control.proofs.KnownSteps.{KnowsState-LoadM, KnowsState-SetM, KnowsState-acknowledged}
use Rattle.vms_plain_control.proofs.KnownSteps.{KnowsState-thresholds, AreCpus}
use Rattle.vms_plain_control.proofs.OnlineLeft.{online_from-cpus}

-- thresholds that are set leave the CPUs' states
pub cpus-thresholds : (g t : ℕ) (cs : List CpuId) (s : State) → (with_place_thresholds g t cs s).cpu ≡ s.cpu
cpus-thresholds g t [] s = refl
cpus-thresholds g t (c ∷ cs) s = cpus-thresholds g t cs (with_threshold s c.number g t)

pub thresholds-lead : (g t : ℕ) (cs : List CpuId) (s : State)
    → LeadsOn pages_by_state None (threshold_steps g t cs) s (with_place_thresholds g t cs s)
thresholds-lead g t [] s = refl
thresholds-lead g t (c ∷ cs) s = (tt, thresholds-lead g t cs (with_threshold s c.number g t))

mark-leads : (g m mark : ℕ) (s : State) (b : Bool)
    → LeadsOn pages_by_state None (if b then [] else SetM (record { number = g }) mark ∷ []) s
    (if b then s else with_mark s g mark)
mark-leads g m mark s true = refl
mark-leads g m mark s false = (tt, refl)

-- a rule is asked and a zone that isn't spared is rated
module _ (pressure normal : ZoneSize → ℕ → ℕ → Type 0) (facts : Facts) (p : ℕ) (online : List CpuId) (g : ℕ)
    (h : History) where
  rated-is : (rating : Rating) (t m : ℕ) (steps : List Step) → is_spared rating m ≡ false
      → Rates facts p online (choice_of rating pressure normal) g t m h steps
      → rated_by rating pressure normal facts p online g t m h steps
  rated-is Pressure t m steps some rates = has_mark t m h steps (eqb-false m 0 some) rates
  rated-is Normal t m steps some rates = has_mark t m h steps (eqb-false m 0 some) rates
  rated-is Refresh t m steps some rates = rates

  spared-is : (rating : Rating) (m : ℕ) → is_spared rating m ≡ true
      → rated_by rating pressure normal facts p online g 0 m h []
  spared-is Pressure m none = subst (λ n. RatesMarked facts p online (ByPressure pressure normal) g 0 n h [])
      (sym (eqb-true m 0 none)) (unmarked h)
  spared-is Normal m none = subst (λ n. RatesMarked facts p online (ByNormal normal) g 0 n h [])
      (sym (eqb-true m 0 none)) (unmarked h)
  spared-is Refresh m none = absurd cc

module _ (header : Header) (layout : IsLayout header.layout) (g : ℕ) (zone : IsZone header.layout g) (s : State)
    (shaped : HasShape header.layout s) where
  abbrev online : List CpuId
  online = online_in s

  cpus : (base : State) (p : ℕ) → AreCpus (facts_of header base) layout p online
  cpus base p = online_from-cpus header.layout.cpus 0 s.cpu (omega (arith, shaped.cpu))

  abbrev acknowledged : List (Option ℕ)
  acknowledged = map (λ c. acknowledged_at s c.number g) online

  abbrev load : Step
  load = LoadM (record { number = g }) (mark_at s g) (mark_sets_at s g)

  abbrev loads : List Step
  loads = acknowledged_steps g online acknowledged ++ (load ∷ [])

  acknowledged-lead : (cs : List CpuId)
      → LeadsOn pages_by_state None (acknowledged_steps g cs (map (λ c. acknowledged_at s c.number g) cs)) s s
  acknowledged-lead [] = refl
  acknowledged-lead (c ∷ cs) = (refl, acknowledged-lead cs)

  loads-lead : LeadsOn pages_by_state None loads s s
  loads-lead = LeadsOn-append pages_by_state None (acknowledged_steps g online acknowledged) (load ∷ []) s s s
      (acknowledged-lead online) ((refl, refl), refl)

  loads-known : (base : State) (h : History) (p : ℕ) (peaks : List ℕ) → KnowsState (facts_of header base) h s peaks
      → KnowsState (facts_of header base) (after p loads h) s (peaks_lowered header.layout s g online peaks)
  loads-known base h p peaks knows =
      let facts = facts_of header base in
      let found = acknowledged_steps g online acknowledged in
      subst (λ k. KnowsState facts k s (peaks_lowered header.layout s g online peaks))
      (sym (after-steps p found (load ∷ []) h))
      (KnowsState-LoadM facts layout p (after p found h) s (peaks_lowered header.layout s g online peaks)
      (KnowsState-acknowledged facts layout p g zone s online (cpus base p) h peaks knows) g (mark_at s g)
      (mark_sets_at s g))

  module _ (usual t : ℕ) (peaks : List ℕ) where
    abbrev mark : ℕ
    mark = mark_by header g usual s (peaks_raised header.layout g t online peaks)

    abbrev setting : List Step
    setting = mark_steps g (mark_at s g) mark ++ threshold_steps g t online

    setting-leads : LeadsOn pages_by_state None setting s (rated header g usual t s peaks)
    setting-leads = LeadsOn-append pages_by_state None (mark_steps g (mark_at s g) mark) (threshold_steps g t online) s
        (marked g mark s) (rated header g usual t s peaks)
        (mark-leads g (mark_at s g) mark s (nat_eq mark (mark_at s g)))
        (thresholds-lead g t online (marked g mark s))

    module _ (base : State) (h : History) (p : ℕ) (knows : KnowsState (facts_of header base) h s peaks) where
      abbrev facts : Facts
      facts = facts_of header base

      -- the mark that is set is the one that covers
      mark-is : mark_for facts p online h g usual t ≡ mark
      mark-is = ap (cover_mark_of (size_at header.sizes g)
          (linux_mark_of (size_at header.sizes g) (length online) usual)) sums
        where
          set : History
          set = after p (threshold_steps g t online) h

          known : KnowsState facts set (with_place_thresholds g t online s)
              (peaks_raised header.layout g t online peaks)
          known = KnowsState-thresholds facts layout p g t zone online (cpus base p) h s peaks knows

          sums : peak_sum facts g set ≡ hidden_by header.layout s (peaks_raised header.layout g t online peaks) g
          sums = count_below-same (λ c. if_present (cpu_in facts c set) (peak facts c g set))
              (λ c. if_present (cpu_at s c) (peak_in header.layout (peaks_raised header.layout g t online peaks) c g))
              header.layout.cpus
              (λ c c_in. ap (λ x. if_present x (peak facts c g set))
              (sym (known.cpus c c_in) ∙ ap (λ (xs : List CpuState). cpu_at (record s { cpu = xs }) c)
              (cpus-thresholds g t online s))
              ∙ ap (if_present (cpu_at s c)) (sym (known.known.each c g c_in zone)))

      setting-known : KnowsState facts (after p setting h) (rated header g usual t s peaks)
          (peaks_raised header.layout g t online peaks)
      setting-known = subst
          (λ k. KnowsState facts k (rated header g usual t s peaks) (peaks_raised header.layout g t online peaks))
          (sym (after-steps p (mark_steps g (mark_at s g) mark) (threshold_steps g t online) h))
          (KnowsState-thresholds facts layout p g t zone online (cpus base p)
          (after p (mark_steps g (mark_at s g) mark) h) (marked g mark s) peaks (by (nat_eq mark (mark_at s g))))
        where
          by : (b : Bool)
              → KnowsState facts (after p (if b then [] else SetM (record { number = g }) mark ∷ []) h)
              (if b then s else with_mark s g mark) peaks
          by true = knows
          by false = KnowsState-SetM facts layout p h s peaks knows g mark

  module _ (pressure normal : ZoneSize → ℕ → ℕ → Type 0) (rating : Rating) (peaks : List ℕ) where
    abbrev pub IsVisit : ℕ → State → ℕ → History → List Step → Type 0
    IsVisit t base p h steps = Visits (facts_of header base) p online
        (rated_by rating pressure normal (facts_of header base) p online) g t h steps

    abbrev low : List ℕ
    low = peaks_lowered header.layout s g online peaks

    pub spared-makes : is_spared rating (mark_at s g) ≡ true
        → MakesPart header (IsVisit 0) s peaks s low
    spared-makes spared base h p knows = (
      loads,
      record {
        numbers = acknowledged;
        one_each = length-map online (λ (c : CpuId). acknowledged_at s c.number g);
        mark = record { mark = mark_at s g; number = mark_sets_at s g };
        loads = loads;
        loads_are = refl;
        further = [];
        rated = spared-is pressure normal (facts_of header base) p online g (after p loads h) rating (mark_at s g)
            spared;
        in_order = sym (append-nil loads);
      },
      loads-lead,
      loads-known base h p peaks knows,
    )

    pub rated-makes : (usual t : ℕ) → is_spared rating (mark_at s g) ≡ false
        → choice_of rating pressure normal (size_at header.sizes g) (length online) t usual
        → MakesPart header (IsVisit t) s peaks (rated header g usual t s low)
        (peaks_raised header.layout g t online low)
    rated-makes usual t some chosen base h p knows =
        let facts = facts_of header base in
        let begun = after p loads h in
        let known = loads-known base h p peaks knows in
        let same : setting usual t low ≡ rating_steps facts p online begun g (mark_at s g) usual t =
        ap (λ m. mark_steps g (mark_at s g) m ++ threshold_steps g t online)
        (sym (mark-is usual t low base begun p known)) in (
          loads ++ setting usual t low,
          record {
            numbers = acknowledged;
            one_each = length-map online (λ (c : CpuId). acknowledged_at s c.number g);
            mark = record { mark = mark_at s g; number = mark_sets_at s g };
            loads = loads;
            loads_are = refl;
            further = setting usual t low;
            rated = rated-is pressure normal facts p online g begun rating t (mark_at s g) (setting usual t low) some
                (record { usual = usual; chosen = chosen; in_order = same });
            in_order = refl;
          },
          LeadsOn-append pages_by_state None loads (setting usual t low) s s (rated header g usual t s low) loads-lead
              (setting-leads usual t low),
          subst (λ k. KnowsState facts k (rated header g usual t s low) (peaks_raised header.layout g t online low))
              (sym (after-steps p loads (setting usual t low) h)) (setting-known usual t low base begun p known),
        )
