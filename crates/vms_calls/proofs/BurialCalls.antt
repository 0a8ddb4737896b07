-- The control pass may make the steps of a burial.
use Rattle.std.proofs.Common.{ℕ, sym, ◌∙◌}
use Rattle.vms_history.specs.Common.{ZoneSize, GivesThresholds}
use Rattle.vms_calls.specs.Common.{MakesBurial, Buries}
use Rattle.vms_calls.proofs.MayBegin.{call-begins}
use Rattle.vms_calls.proofs.BurialRuns.{burial-runs}
use Rattle.vms_calls.proofs.ControlCalls.{base, valid_sizes, control-may}
use Rattle.vms_core.proofs.Common.{cpu_at-state_after}

pub burial-may : (normal : ZoneSize → ℕ → ℕ → Type 0) → GivesThresholds normal → MakesBurial normal
burial-may normal normals facts h p c controls c_in dead nothing =
    call-begins facts p h (λ steps. Buries facts normal c p h steps) (λ steps buries.
    control-may facts h p controls steps
    (burial-runs facts (base facts h p controls).layout (valid_sizes facts h p controls) p normal normals c c_in h steps
    (sym (cpu_at-state_after facts h controls.living.legal c.number c_in) ∙ dead) nothing buries))
