-- What the control pass keeps as a phase begins is what stands then.
use Rattle.std.proofs.Common.{◌≡◌, ℕ, ◌*◌, ◌<◌, ◌/◌, ◌%◌, [], List, length, get_or, refl, ap, ◌∙◌, arith}
use Rattle.vms_calls.specs.Common.{state_at, IsLayout, cell, Facts, IsOpening, threshold_at, threshold_sets_at}
use Rattle.vms_calls.specs.Common.{opening_peak}
use Rattle.vms_base.proofs.Common.{cell-cpu, cell-lt, cell-thing}
use Rattle.vms_core.proofs.Common.{places_of-shaped}
use Rattle.vms_words.specs.declared.kept.Settings.{Settings}
use Rattle.vms_words.specs.Common.{KeepsSettings, kept_threshold, kept_sets}
use Rattle.vms_words.proofs.KeptSettings.{largest-most}

module _ (facts : Facts) (layout : IsLayout facts.layout) (opening : IsOpening facts.layout facts.base)
    (kept : Settings) (peaks_full : length kept.peaks ≡ facts.layout.cpus * length facts.layout.zones)
    (peaks : (n : ℕ) → n < facts.layout.cpus * length facts.layout.zones → get_or kept.peaks n 0
    ≡ opening_peak facts.layout facts.base (n / length facts.layout.zones) (n % length facts.layout.zones))
    (thresholds : kept.thresholds ≡ facts.base.threshold)
    (threshold_sets : kept.threshold_sets ≡ facts.base.threshold_sets)
    (mark_sets : kept.mark_sets ≡ facts.base.mark_sets) (cpus : kept.cpus ≡ facts.base.cpu)
    (none : kept.largest_sets ≡ 0) where
  threshold-same : (c g : ℕ) → kept_threshold facts.layout kept c g ≡ threshold_at facts.base c g
  threshold-same c g = rw (thresholds, places_of-shaped facts.layout facts.base layout opening.shaped) refl

  sets-same : (c g : ℕ) → kept_sets facts.layout kept c g ≡ threshold_sets_at facts.base c g
  sets-same c g = rw (threshold_sets, places_of-shaped facts.layout facts.base layout opening.shaped) refl

  pub KeepsSettings-opening : KeepsSettings facts [] kept
  KeepsSettings-opening = record {
    is_kept = record {
      peaks = peaks_full;
      thresholds = ap length thresholds ∙ opening.shaped.threshold;
      threshold_sets = ap length threshold_sets ∙ opening.shaped.threshold_sets;
      mark_sets = ap length mark_sets ∙ opening.shaped.mark_sets;
      cpus = ap length cpus ∙ opening.shaped.cpu;
    };
    peaks = λ c g c_in g_in.
        let zones = length facts.layout.zones in
        peaks (cell zones c g) (cell-lt zones facts.layout.cpus c g c_in g_in)
        ∙ ap (λ n. opening_peak facts.layout facts.base n (cell zones c g % zones)) (cell-cpu zones c g g_in)
        ∙ ap (opening_peak facts.layout facts.base c) (cell-thing zones c g g_in);
    thresholds = λ c g c_in g_in. threshold-same c g;
    threshold_sets = λ c g c_in g_in. sets-same c g;
    mark_sets = λ g g_in. ap (λ (row : List ℕ). get_or row g 0) mark_sets;
    cpus = λ c c_in. ap (λ states. state_at states c) cpus;
    largest =
        let most = largest-most facts.layout facts.base 0
        (λ c g c_in g_in. omega (arith, opening.unset_thresholds c g c_in g_in))
        (λ g g_in. omega (arith, opening.unset_marks g g_in)) in
        omega (arith, none, most);
  }
