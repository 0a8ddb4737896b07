-- What the control pass knows after each of its steps.
use Rattle.std.proofs.Common.{◌≡◌, ℕ, suc, ◌+◌, ◌<◌, ◌≤◌, ◌&&◌, nat_eq, max, if◌then◌else◌, Bool, true, false, List, []}
use Rattle.std.proofs.Common.{◌∷◌, length, map, None, Option, refl, sym, ap, ◌∙◌, arith, length-set, eqb-true}
use Rattle.std.specs.Prelude.{All}
use Rattle.std.proofs.lemmas.Bool.{ne_eqb}
use Rattle.std.proofs.lemmas.List.Elements.{All-head, All-tail}
use Rattle.vms_calls.specs.Common.{CpuId, CpuState, IsLayout, IsCpu, IsPlace, IsZone, cell, Event, after, State, Facts}
use Rattle.vms_calls.specs.Common.{Step, LoadM, LoadO, LoadA, SetT, SetM, threshold_at, threshold_sets_at}
use Rattle.vms_calls.specs.Common.{acknowledged_at, with_mark, with_threshold, History, is_number, sets, threshold_in}
use Rattle.vms_calls.specs.Common.{peak, in_turn, acknowledged_steps, state_steps, threshold_steps}
use Rattle.vms_history.proofs.Common.{get_or-changed_cell, get_or-set_cell}
use Rattle.vms_core.proofs.Common.{HasShape-effect}
use Rattle.vms_plain_control.specs.Common.{KnowsState, HasAllPeaks, peak_in, with_peak, is_acknowledged, peaks_lowered}
use Rattle.vms_plain_control.specs.Common.{peaks_raised, with_place_thresholds}
use Rattle.vms_plain_control.proofs.ThresholdWrites.{HasShape-with_threshold, threshold_at-with_threshold}
use Rattle.vms_plain_control.proofs.ThresholdWrites.{threshold_sets_at-with_threshold}

-- a zone is a place
pub zone-place : (zones nodes g : ℕ) → g < zones → g < zones + nodes
zone-place zones nodes g zone = omega arith

module _ (facts : Facts) (layout : IsLayout facts.layout) (p : ℕ) where
  abbrev event : Step → Event Step
  event step = record { caller = p; step = step }

  abbrev with_one : State → ℕ → CpuId → List ℕ → List ℕ
  with_one s g c peaks = if is_acknowledged s c.number g
      then with_peak facts.layout c.number g (threshold_at s c.number g) peaks
      else peaks

  abbrev raised_one : ℕ → ℕ → CpuId → List ℕ → List ℕ
  raised_one g t c peaks =
      with_peak facts.layout c.number g (max t (peak_in facts.layout peaks c.number g)) peaks

  module _ (h : History) (s : State) (peaks : List ℕ) (knows : KnowsState facts h s peaks) where
    -- a load of a CPU's state or of a mark tells nothing of peaks
    pub KnowsState-LoadO : (c : CpuId) (x : CpuState) → KnowsState facts (event (LoadO c x) ∷ h) s peaks
    KnowsState-LoadO c x = record {
      shaped = knows.shaped;
      known = record { full = knows.known.full; each = knows.known.each };
      thresholds = knows.thresholds;
      numbers = knows.numbers;
      cpus = knows.cpus;
    }

    pub KnowsState-LoadM : (g m a : ℕ) → KnowsState facts (event (LoadM (record { number = g }) m a) ∷ h) s peaks
    KnowsState-LoadM g m a = record {
      shaped = knows.shaped;
      known = record { full = knows.known.full; each = knows.known.each };
      thresholds = knows.thresholds;
      numbers = knows.numbers;
      cpus = knows.cpus;
    }

    pub KnowsState-SetM : (g m : ℕ) →
        KnowsState facts (event (SetM (record { number = g }) m) ∷ h) (with_mark s g m) peaks
    KnowsState-SetM g m = record {
      shaped = HasShape-effect facts.layout facts None (SetM (record { number = g }) m) s knows.shaped;
      known = record { full = knows.known.full; each = knows.known.each };
      thresholds = knows.thresholds;
      numbers = knows.numbers;
      cpus = knows.cpus;
    }

    -- where the newest threshold is found acknowledged it is the peak
    pub KnowsState-LoadA : (c : CpuId) (g : ℕ) → IsCpu facts.layout c.number → IsZone facts.layout g
        → KnowsState facts (event (LoadA c (record { number = g }) (acknowledged_at s c.number g)) ∷ h) s
        (with_one s g c peaks)
    KnowsState-LoadA c g c_in zone = record {
      shaped = knows.shaped;
      known = record { full = full (is_acknowledged s c.number g); each = each };
      thresholds = knows.thresholds;
      numbers = knows.numbers;
      cpus = knows.cpus;
    }
      where
        t : ℕ
        t = threshold_at s c.number g

        found : Option ℕ
        found = acknowledged_at s c.number g

        full : (b : Bool) → HasAllPeaks facts.layout (if b then with_peak facts.layout c.number g t peaks else peaks)
        full true = length-set peaks (cell (length facts.layout.zones) c.number g) t ∙ knows.known.full
        full false = knows.known.full

        by : (d f : ℕ) → IsCpu facts.layout d → IsZone facts.layout f → (a b n : Bool)
            → nat_eq c.number d ≡ a → nat_eq g f ≡ b → is_number found (threshold_sets_at s c.number g) ≡ n
            → (if n then (if a && b then t else peak_in facts.layout peaks d f) else peak_in facts.layout peaks d f)
            ≡ (if a && b && is_number found (sets d f h) then threshold_in facts d f h else peak facts d f h)
        by d f d_in f_in true true true same_c same_g newest =
            let column = eqb-true c.number d same_c in
            let row = eqb-true g f same_g in
            let place = zone-place (length facts.layout.zones) (length facts.layout.nodes) f f_in in
            let number : is_number found (sets d f h) ≡ true =
            ap (is_number found) (sym (knows.numbers d f d_in place))
            ∙ ap (λ n. is_number found n) (ap (λ n. threshold_sets_at s n f) (sym column)
            ∙ ap (λ n. threshold_sets_at s c.number n) (sym row)) ∙ newest in
            ap (λ n. threshold_at s n g) column ∙ ap (λ n. threshold_at s d n) row ∙ knows.thresholds d f d_in place
            ∙ sym (ap (λ b. if b then threshold_in facts d f h else peak facts d f h) number)
        by d f d_in f_in true true false same_c same_g older =
            let column = eqb-true c.number d same_c in
            let row = eqb-true g f same_g in
            let place = zone-place (length facts.layout.zones) (length facts.layout.nodes) f f_in in
            let number : is_number found (sets d f h) ≡ false =
            ap (is_number found) (sym (knows.numbers d f d_in place))
            ∙ ap (λ n. is_number found n) (ap (λ n. threshold_sets_at s n f) (sym column)
            ∙ ap (λ n. threshold_sets_at s c.number n) (sym row)) ∙ older in
            knows.known.each d f d_in f_in
            ∙ sym (ap (λ b. if b then threshold_in facts d f h else peak facts d f h) number)
        by d f d_in f_in true false true same_c other_g newest = knows.known.each d f d_in f_in
        by d f d_in f_in true false false same_c other_g newest = knows.known.each d f d_in f_in
        by d f d_in f_in false b true other_c is_g newest = knows.known.each d f d_in f_in
        by d f d_in f_in false b false other_c is_g newest = knows.known.each d f d_in f_in

        read : (n : Bool) (d f : ℕ) → IsZone facts.layout f
            → peak_in facts.layout (if n then with_peak facts.layout c.number g t peaks else peaks) d f
            ≡ (if n then (if nat_eq c.number d && nat_eq g f then t else peak_in facts.layout peaks d f)
            else peak_in facts.layout peaks d f)
        read true d f f_in = get_or-set_cell (length facts.layout.zones) facts.layout.cpus peaks c.number g d f t 0
            knows.known.full c_in zone f_in
        read false d f f_in = refl

        each : (d f : ℕ) → IsCpu facts.layout d → IsZone facts.layout f
            → peak_in facts.layout (with_one s g c peaks) d f
            ≡ peak facts d f (event (LoadA c (record { number = g }) found) ∷ h)
        each d f d_in f_in = read (is_acknowledged s c.number g) d f f_in
            ∙ by d f d_in f_in (nat_eq c.number d) (nat_eq g f) (is_acknowledged s c.number g) refl refl refl

    module _ (c : CpuId) (g t : ℕ) (c_in : IsCpu facts.layout c.number) (g_in : IsPlace facts.layout g) where
      set-thresholds : (d f : ℕ) → IsCpu facts.layout d → IsPlace facts.layout f
          → threshold_at (with_threshold s c.number g t) d f
          ≡ threshold_in facts d f (event (SetT c (record { number = g }) t) ∷ h)
      set-thresholds d f d_in f_in =
          threshold_at-with_threshold facts.layout layout s knows.shaped c.number g t c_in g_in d f f_in
          ∙ ap (λ n. if nat_eq c.number d && nat_eq g f then t else n) (knows.thresholds d f d_in f_in)

      set-numbers : (d f : ℕ) → IsCpu facts.layout d → IsPlace facts.layout f
          → threshold_sets_at (with_threshold s c.number g t) d f
          ≡ sets d f (event (SetT c (record { number = g }) t) ∷ h)
      set-numbers d f d_in f_in =
          threshold_sets_at-with_threshold facts.layout layout s knows.shaped c.number g t c_in g_in d f f_in
          ∙ ap (λ n. if nat_eq c.number d && nat_eq g f then suc n else n) (knows.numbers d f d_in f_in)

      -- a threshold of a zone may raise its peak
      pub KnowsState-SetT : IsZone facts.layout g
          → KnowsState facts (event (SetT c (record { number = g }) t) ∷ h) (with_threshold s c.number g t)
          (raised_one g t c peaks)
      KnowsState-SetT zone = record {
        shaped = HasShape-with_threshold facts.layout layout s knows.shaped c.number g t;
        known = record {
          full = length-set peaks (cell (length facts.layout.zones) c.number g)
              (max t (peak_in facts.layout peaks c.number g)) ∙ knows.known.full;
          each = λ d f d_in f_in. get_or-changed_cell (length facts.layout.zones) facts.layout.cpus (max t) peaks
              c.number g d f 0 knows.known.full c_in zone f_in
              ∙ ap (λ n. if nat_eq c.number d && nat_eq g f then max t n else n) (knows.known.each d f d_in f_in);
        };
        thresholds = set-thresholds;
        numbers = set-numbers;
        cpus = knows.cpus;
      }

      -- one of a node raises none
      pub KnowsState-SetT_node : length facts.layout.zones ≤ g
          → KnowsState facts (event (SetT c (record { number = g }) t) ∷ h) (with_threshold s c.number g t) peaks
      KnowsState-SetT_node node = record {
        shaped = HasShape-with_threshold facts.layout layout s knows.shaped c.number g t;
        known = record {
          full = knows.known.full;
          each = λ d f d_in f_in. knows.known.each d f d_in f_in
              ∙ by (nat_eq c.number d) (nat_eq g f) (ne_eqb g f (λ same. omega arith)) (peak facts d f h);
        };
        thresholds = set-thresholds;
        numbers = set-numbers;
        cpus = knows.cpus;
      }
        where
          by : (a b : Bool) → b ≡ false → (n : ℕ) → n ≡ (if a && b then max t n else n)
          by true true is n = absurd cc
          by true false is n = refl
          by false b is n = refl

  abbrev pub AreCpus : List CpuId → Type 0
  AreCpus cs = All (λ c. c.number < facts.layout.cpus) cs

  cpus-head : (c : CpuId) (cs : List CpuId) → AreCpus (c ∷ cs) → c.number < facts.layout.cpus
  cpus-head c cs all = All-head (λ (c : CpuId). c.number < facts.layout.cpus) c cs all

  cpus-tail : (c : CpuId) (cs : List CpuId) → AreCpus (c ∷ cs) → AreCpus cs
  cpus-tail c cs all = All-tail (λ (c : CpuId). c.number < facts.layout.cpus) c cs all

  pub KnowsState-thresholds : (g t : ℕ) → IsZone facts.layout g → (cs : List CpuId) → AreCpus cs
      → (h : History) (s : State) (peaks : List ℕ) → KnowsState facts h s peaks
      → KnowsState facts (after p (threshold_steps g t cs) h) (with_place_thresholds g t cs s)
      (peaks_raised facts.layout g t cs peaks)
  KnowsState-thresholds g t zone [] all h s peaks knows = knows
  KnowsState-thresholds g t zone (c ∷ cs) all h s peaks knows =
      KnowsState-thresholds g t zone cs (cpus-tail c cs all) (event (SetT c (record { number = g }) t) ∷ h)
      (with_threshold s c.number g t) (raised_one g t c peaks)
      (KnowsState-SetT h s peaks knows c g t (cpus-head c cs all)
      (zone-place (length facts.layout.zones) (length facts.layout.nodes) g zone) zone)

  pub KnowsState-node_thresholds : (g t : ℕ) → IsPlace facts.layout g → length facts.layout.zones ≤ g →
      (cs : List CpuId)
      → AreCpus cs → (h : History) (s : State) (peaks : List ℕ) → KnowsState facts h s peaks
      → KnowsState facts (after p (threshold_steps g t cs) h) (with_place_thresholds g t cs s) peaks
  KnowsState-node_thresholds g t place node [] all h s peaks knows = knows
  KnowsState-node_thresholds g t place node (c ∷ cs) all h s peaks knows =
      KnowsState-node_thresholds g t place node cs (cpus-tail c cs all) (event (SetT c (record { number = g }) t) ∷ h)
      (with_threshold s c.number g t) peaks
      (KnowsState-SetT_node h s peaks knows c g t (cpus-head c cs all) place node)

  -- what these CPUs acknowledged last of zone g
  abbrev pub acknowledged_of : State → ℕ → List CpuId → List (Option ℕ)
  acknowledged_of s g cs = map (λ c. acknowledged_at s c.number g) cs

  pub KnowsState-acknowledged : (g : ℕ) → IsZone facts.layout g → (s : State) (cs : List CpuId) → AreCpus cs
      → (h : History) (peaks : List ℕ) → KnowsState facts h s peaks
      → KnowsState facts (after p (acknowledged_steps g cs (acknowledged_of s g cs)) h) s
      (peaks_lowered facts.layout s g cs peaks)
  KnowsState-acknowledged g zone s [] all h peaks knows = knows
  KnowsState-acknowledged g zone s (c ∷ cs) all h peaks knows =
      KnowsState-acknowledged g zone s cs (cpus-tail c cs all)
      (event (LoadA c (record { number = g }) (acknowledged_at s c.number g)) ∷ h) (with_one s g c peaks)
      (KnowsState-LoadA h s peaks knows c g (cpus-head c cs all) zone)

  pub KnowsState-states : (n : ℕ) (xs : List CpuState) (h : History) (s : State) (peaks : List ℕ) →
      KnowsState facts h s peaks
      → KnowsState facts (after p (in_turn state_steps n xs) h) s peaks
  KnowsState-states n [] h s peaks knows = knows
  KnowsState-states n (x ∷ xs) h s peaks knows =
      KnowsState-states (suc n) xs (event (LoadO (record { number = n }) x) ∷ h) s peaks
      (KnowsState-LoadO h s peaks knows (record { number = n }) x)
