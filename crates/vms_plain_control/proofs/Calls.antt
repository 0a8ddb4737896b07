-- The calls on the zones of a node, and on all zones.
use Rattle.std.proofs.Common.{◌≡◌, ◌≢◌, ℕ, suc, ◌+◌, ◌<◌, List, [], ◌∷◌, ◌++◌, length, get_or, None, refl, sym, ap}
use Rattle.std.proofs.Common.{subst, arith, append_assoc}
use Rattle.std.proofs.lemmas.List.{append-nil}
use Rattle.vms_calls.specs.Common.{Header, CpuId, PlaceId, CpuState, Absent, ZoneSize, online_from, state_at, IsLayout}
use Rattle.vms_calls.specs.Common.{GivesThresholds, after, LeadsOn, State, Facts, Step, HasShape, KeepsLaws, pages}
use Rattle.vms_calls.specs.Common.{History, facts_of, in_turn, Choice, ByNormal, ByPressure, RatesNode, RatesMarked}
use Rattle.vms_calls.specs.Common.{Visits, VisitsEach, node_number, state_steps, zones_on, none, next, choice_of}
use Rattle.vms_calls.specs.Common.{rated_by}
use Rattle.vms_history.proofs.Common.{after-steps, LeadsOn-append, call-goes_on}
use Rattle.vms_core.proofs.Common.{laws-kept}
use Rattle.vms_calls.specs.MayMake as making
use Rattle.vms_calls.proofs.Common.{GivesBoth, normal-gives, pressure-gives, node-may}
use Rattle.vms_calls.specs.declared.choices.Rating.{Rating}
use Rattle.vms_calls.specs.declared.choices.Rating.TheVariants.{Pressure, Normal, Refresh}
use Rattle.vms_plain_control.specs.Common.{ControlCall, Controls, ControlMakes, MakesPart, KnowsState, KnowsPeaks}
use Rattle.vms_plain_pages.specs.Common.{pages_by_state, pages_are_by_state}
use Rattle.vms_plain_control.proofs.KnownSteps.{KnowsState-states}

-- the control pass knows the state in which a legal history ends
pub Controls-Knows : (header : Header) (base : State) (h : History) (p : ℕ) (s : State) (peaks : List ℕ)
    → Controls header base h p s peaks → KnowsState (facts_of header base) h s peaks
Controls-Knows header base h p s peaks controls =
    subst (λ (x : State). KnowsState facts h x peaks) controls.stands (record {
      shaped = laws.shape;
      known = controls.known;
      thresholds = laws.told_thresholds;
      numbers = laws.told_numbers;
      cpus = laws.told_cpus;
    })
  where
    facts : Facts
    facts = facts_of header base

    laws : KeepsLaws facts h
    laws = laws-kept facts h controls.control.living.legal

-- the states of the CPUs are loaded
pub states-lead : (n : ℕ) (xs : List CpuState) (s : State)
    → ((i : ℕ) → i < length xs → state_at s.cpu (n + i) ≡ get_or xs i Absent)
    → LeadsOn pages_by_state None (in_turn state_steps n xs) s s
states-lead n [] s same = refl
states-lead n (x ∷ xs) s same = (
  subst (λ (m : ℕ). state_at s.cpu m ≡ x) (let zero_more : n + 0 ≡ n = omega arith in zero_more) (same 0 (omega arith)),
  states-lead (suc n) xs s (λ i less. subst (λ (m : ℕ). state_at s.cpu m ≡ get_or xs i Absent)
      (let moved : n + suc i ≡ suc n + i = omega arith in moved) (same (suc i) (omega arith))),
)

-- a further visit
module _ (facts : Facts) (p : ℕ) (online : List CpuId) (Rated : ℕ → ℕ → ℕ → History → List Step → Type 0) where
  VisitsEach-more : (gs ts : List ℕ) (h : History) (first : List Step) → VisitsEach facts p online Rated gs ts h first
      → (g t : ℕ) (last : List Step) → Visits facts p online Rated g t (after p first h) last
      → VisitsEach facts p online Rated (gs ++ (g ∷ [])) (ts ++ (t ∷ [])) h (first ++ last)
  VisitsEach-more gs ts h first (none k) g t last visit =
      subst (VisitsEach facts p online Rated (g ∷ []) (t ∷ []) k) (append-nil last)
      (next g t [] [] k last [] visit (none (after p last k)))
  VisitsEach-more gs ts h steps (next z u gs' ts' k first rest one more) g t last visit =
      subst (VisitsEach facts p online Rated (z ∷ (gs' ++ (g ∷ []))) (u ∷ (ts' ++ (t ∷ []))) k)
      (sym (append_assoc first rest last))
      (next z u (gs' ++ (g ∷ [])) (ts' ++ (t ∷ [])) k first (rest ++ last) one
      (VisitsEach-more gs' ts' (after p first k) rest more g t last
      (subst (λ j. Visits facts p online Rated g t j last) (after-steps p first rest k) visit)))

module _ (header : Header) (pressure normal : ZoneSize → ℕ → ℕ → Type 0) (rating : Rating) where
  -- zones are visited in a row and get thresholds
  abbrev pub Visited : List CpuState → List ℕ → List ℕ → ControlCall
  Visited states gs ts base p h steps = VisitsEach (facts_of header base) p (online_from 0 states)
      (rated_by rating pressure normal (facts_of header base) p (online_from 0 states)) gs ts h steps

  abbrev pub VisitsOne : List CpuState → ℕ → ℕ → ControlCall
  VisitsOne states g t base p h steps = Visits (facts_of header base) p (online_from 0 states)
      (rated_by rating pressure normal (facts_of header base) p (online_from 0 states)) g t h steps

  pub visited-none : (states : List CpuState) (s : State) (peaks : List ℕ)
      → MakesPart header (Visited states [] []) s peaks s peaks
  visited-none states s peaks base h p knows = ([], none h, refl, knows)

  pub visited-more : (gs ts : List ℕ) (g t : ℕ) (s now ended : State) (peaks some last : List ℕ)
      → MakesPart header (Visited s.cpu gs ts) s peaks now some → now.cpu ≡ s.cpu
      → MakesPart header (VisitsOne now.cpu g t) now some ended last
      → MakesPart header (Visited s.cpu (gs ++ (g ∷ [])) (ts ++ (t ∷ []))) s peaks ended last
  visited-more gs ts g t s now ended peaks some last first same second base h p knows =
      let facts = facts_of header base in
      let one = first base h p knows in
      let two = second base (after p one.0 h) p one.3 in
      let online = online_from 0 s.cpu in (
        one.0 ++ two.0,
        VisitsEach-more facts p online (rated_by rating pressure normal facts p online) gs ts h one.0 one.1 g t two.0
            (subst (λ states. VisitsOne states g t base p (after p one.0 h) two.0) same two.1),
        LeadsOn-append pages_by_state None one.0 two.0 s now ended one.2 two.2,
        subst (λ k. KnowsState facts k ended last) (sym (after-steps p one.0 two.0 h)) two.3,
      )

module _ (header : Header) (layout : IsLayout header.layout) (n : PlaceId) (s next : State) (peaks known : List ℕ)
    (shaped : HasShape header.layout s) where
  abbrev zones : List ℕ
  zones = zones_on header.layout (node_number header.layout n)

  abbrev pub loads : List Step
  loads = in_turn state_steps 0 s.cpu

  pub loaded : LeadsOn pages_by_state None loads s s
  loaded = states-lead 0 s.cpu s (λ i less. let same : 0 + i ≡ i = omega arith in ap (state_at s.cpu) same)

  node-makes : (Chooses : Choice) → GivesBoth Chooses → (ts : List ℕ)
      → MakesPart header (λ base p h steps. VisitsEach (facts_of header base) p (online_from 0 s.cpu)
      (RatesMarked (facts_of header base) p (online_from 0 s.cpu) Chooses) zones ts h steps) s peaks next known
      → ControlMakes header (λ base p h steps. RatesNode (facts_of header base) Chooses n p h steps) s peaks next known
  node-makes Chooses gives ts part base h p controls =
      let facts = facts_of header base in
      let knows = Controls-Knows header base h p s peaks controls in
      let visits = part base (after p loads h) p (KnowsState-states facts layout p 0 s.cpu h s peaks knows) in
      let steps = loads ++ visits.0 in
      let leads : LeadsOn pages_by_state None steps s next =
      LeadsOn-append pages_by_state None loads visits.0 s s next loaded visits.2 in
      let rates : RatesNode facts Chooses n p h steps = record {
        states = s.cpu;
        one_each = shaped.cpu;
        thresholds = ts;
        further = visits.0;
        visits = visits.1;
        in_order = refl;
      } in (
        steps,
        rates,
        leads,
        call-goes_on pages making.Tells pages_by_state pages_are_by_state facts p None h
            (λ ks. RatesNode facts Chooses n p h ks) steps next controls.control.living.legal
            controls.control.living.lives controls.control.control (node-may Chooses gives facts h p n controls.control)
            rates (subst (λ (x : State). LeadsOn pages_by_state None steps x next) (sym controls.stands) leads),
        subst (λ k. KnowsPeaks facts k known) (sym (after-steps p loads visits.0 h)) visits.3.known,
      )

  pub node-call : (pressure normal : ZoneSize → ℕ → ℕ → Type 0) → GivesThresholds pressure → GivesThresholds normal
      → (rating : Rating) → rating ≢ Refresh → (ts : List ℕ)
      → MakesPart header (Visited header pressure normal rating s.cpu zones ts) s peaks next known
      → ControlMakes header (λ base p h steps.
      RatesNode (facts_of header base) (choice_of rating pressure normal) n p h steps) s peaks next known
  node-call pressure normal pressures normals Pressure other ts part =
      node-makes (ByPressure pressure normal) (pressure-gives pressure normal pressures normals) ts part
  node-call pressure normal pressures normals Normal other ts part =
      node-makes (ByNormal normal) (normal-gives normal normals) ts part
  node-call pressure normal pressures normals Refresh other ts part = absurd (other refl)
