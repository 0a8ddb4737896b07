-- What a control pass tells without a step.
use Rattle.std.proofs.Common.{◌≡◌, ℕ, ap, ◌∙◌}
use Rattle.vms_calls.specs.Common.{state_at, IsZone, Facts, History, if_present, peak, peak_sum, cpu_in}
use Rattle.vms_history.proofs.Common.{count_below-same}
use Rattle.vms_core.specs.Pages.{IsLegal}
use Rattle.vms_core.proofs.Common.{laws-kept}
use Rattle.vms_words.specs.declared.kept.Settings.{Settings}
use Rattle.vms_words.specs.Common.{KeepsSettings, kept_peak, kept_sum}

-- the sum of the peaks
pub kept_sum-knows : (facts : Facts) (h : History) (kept : Settings) (g : ℕ) → IsLegal facts h → IsZone facts.layout g
    → KeepsSettings facts h kept → kept_sum facts.layout kept g ≡ peak_sum facts g h
kept_sum-knows facts h kept g legal g_in knows =
    count_below-same (λ c. if_present (state_at kept.cpus c) (kept_peak facts.layout kept c g))
    (λ c. if_present (cpu_in facts c h) (peak facts c g h)) facts.layout.cpus
    (λ c c_in. ap (λ x. if_present x (kept_peak facts.layout kept c g))
    (knows.cpus c c_in ∙ (laws-kept facts h legal).told_cpus c c_in)
    ∙ ap (if_present (cpu_in facts c h)) (knows.peaks c g c_in g_in))
